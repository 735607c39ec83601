use mathlib.Core.Path.{◌≡◌}
use lib.ListN.{length}
use Rattle.record.specs.Limits.{max_processors, node_slots}
use Rattle.laws.proofs.Arrays.{unmapped}
use Rattle.record_check.proofs.Reading.{node_read, processor_read}
use Rattle.queue_begin.proofs.Bounds.{processor_low}
use Rattle.queue.proofs.Steps.{decided, here_low, ahead_low, own_read_low}
use borrow.Author.Rules.{rules}
use Rattle.queue.proofs.deciding.step_decision.Goals as goal

pub bounds-q-a : goal.bounds-q-a
bounds-q-a c =
    let q = c.args.q in
    let p = c.args.p in
    let v = c.requires.0 in
    let low = processor_low q p v c.requires.1 in
    let processors : length q.processors ≡ max_processors = search (rules, unmapped) in
    let read = processor_read q p processors low in
    here_low q p v c.requires.1 _ read _ c.reading_place-a.ensures

pub bounds-q-next : goal.bounds-q-next
bounds-q-next c =
    let q = c.args.q in
    let p = c.args.p in
    let v = c.requires.0 in
    let low = processor_low q p v c.requires.1 in
    let processors : length q.processors ≡ max_processors = search (rules, unmapped) in
    let read = processor_read q p processors low in
    let long : length q.nodes ≡ node_slots = search (rules, unmapped) in
    let a≡ = c.reading_place-a.ensures in
    let here = node_read q _ long (here_low q p v c.requires.1 _ read _ a≡) in
    ahead_low q p v c.requires.1 _ read _ _ _ a≡ here c.forward_at-next.ensures

pub bounds-q-c : goal.bounds-q-c
bounds-q-c c =
    let q = c.args.q in
    let p = c.args.p in
    let v = c.requires.0 in
    let low = processor_low q p v c.requires.1 in
    let processors : length q.processors ≡ max_processors = search (rules, unmapped) in
    let read = processor_read q p processors low in
    own_read_low q p v c.requires.1 _ read

pub returns : goal.returns
returns c =
    let q = c.args.q in
    let p = c.args.p in
    let v = c.requires.0 in
    let low = processor_low q p v c.requires.1 in
    let processors : length q.processors ≡ max_processors = search (rules, unmapped) in
    let read = processor_read q p processors low in
    let long : length q.nodes ≡ node_slots = search (rules, unmapped) in
    let a≡ = c.reading_place-a.ensures in
    let next≡ = c.forward_at-next.ensures in
    let here = node_read q _ long (here_low q p v c.requires.1 _ read _ a≡) in
    let ahead = node_read q _ long (ahead_low q p v c.requires.1 _ read _ _ _ a≡ here next≡) in
    let own = node_read q _ long (own_read_low q p v c.requires.1 _ read) in
    decided q p _ _ _ _ _ _ _ _ read a≡ here next≡ ahead own c.step_view_from-s.ensures
    c.decide.ensures

use mathlib.Core.Path.{◌≡◌, refl, sym, ◌∙◌, ap}
use lib.ListN.{get_or}
use Rattle.std.specs.Prelude.{Some, None}
use Rattle.sheet_format.specs.Letters.{letter_rules}
use Rattle.sheet_format.specs.Lines.{no_rule}
use Rattle.sheet_format.proofs.Table.{place_none, place_some}
use Rattle.sheet_format.proofs.Readings.{said, read_letter, read_fields, read_feed}
use Rattle.sheet_format.proofs.Readings.{read_form}
use Rattle.sheet_format.proofs.Readings.{line_numbers_lem, bounds_numbers}
use Rattle.sheet_format.proofs.lines.read_line.Goals as goal
use Rattle.sheet_format.proofs.lines.read_line.Goals.{then-not-numbers_keep-via-then-not-numbers_keep, then-not-numbers_keep-via-else-not-numbers_keep+then-part-ne-LINE_FEED}

pub returns-in_err-index : goal.returns-in_err-index
returns-in_err-index c =
    let s = c.args.part.now in
    let l = get_or s 0 0 in
    let none = sym c.in_err-index.was ∙ c.rule_index.ensures in
    let bad = read_letter s _ refl (place_none l none) in
    let r = said s (c.from_residual.ensures ∙ bad) in
    record { value = r.0; numbers = r.1 }

pub numbers_keep-requires : goal.numbers_keep-requires
numbers_keep-requires c =
    (place_some (get_or c.args.part.now 0 0) c.in_ok-index.index (sym c.in_ok-index.was ∙ c.rule_index.ensures)).0

pub returns-then-not-numbers_keep : goal.returns-then-not-numbers_keep
returns-then-not-numbers_keep c =
    let s = c.args.part.now in
    let l = get_or s 0 0 in
    let i = place_some l c.in_ok-index.index (sym c.in_ok-index.was ∙ c.rule_index.ensures) in
    let e =
    bounds_numbers s c.number_at-first.ensures c.number_at-second.ensures
    c.number_at-third.ensures c.number_at-fourth.ensures
    (get_or letter_rules c.in_ok-index.index no_rule) in
    let bad : None ≡ _ = elim c.then-not-numbers_keep.branch [
      | then-not-numbers_keep-via-then-not-numbers_keep w ↦
          read_fields s c.in_ok-index.index i.1 i.0
          (sym e ∙ sym c.numbers_keep.ensures ∙ w.if-not-numbers_keep.true)
      | then-not-numbers_keep-via-else-not-numbers_keep+then-part-ne-LINE_FEED w ↦
          read_feed s c.in_ok-index.index i.1 w.if-part-ne-LINE_FEED.true
    ] in
    let r = said s bad in
    record { value = r.0; numbers = r.1 }

pub returns : goal.returns
returns c =
    let s = c.args.part.now in
    let l = get_or s 0 0 in
    let i = place_some l c.in_ok-index.index (sym c.in_ok-index.was ∙ c.rule_index.ensures) in
    let e =
    bounds_numbers s c.number_at-first.ensures c.number_at-second.ensures
    c.number_at-third.ensures c.number_at-fourth.ensures
    (get_or letter_rules c.in_ok-index.index no_rule) in
    let r =
    said s
    (ap Some
    (line_numbers_lem s c.number_at-first.ensures c.number_at-second.ensures
    c.number_at-third.ensures c.number_at-fourth.ensures)
    ∙ read_form s c.in_ok-index.index i.1 i.0 c.if-part-lt-LINE.false
    (sym e ∙ sym c.numbers_keep.ensures ∙ c.if-not-numbers_keep.false)
    c.if-part-ne-LINE_FEED.false) in
    record { value = r.0; numbers = r.1 }

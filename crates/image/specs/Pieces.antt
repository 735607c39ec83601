-- The image of one node and of one processor, and how they are read back.
--
--   node, 41 bytes                            processor, 26 bytes
--      0  forward, by level       8 bytes        0  begin              4 bytes
--      8  locks, by level         8              4  own node           1
--     16  node lock               1              5  stage: tag         1
--     17  mark                    1              6         place node  1
--     18  stamp: tag              1              7         place level 1
--     19         time             4              8         node of G3  1
--     23  due                     4              9  saved, by level    8
--     27  ticket                  4             17  a removal's job    1
--     31  item                    4             18  a Remove's due     4
--     35  height                  1             22  a Remove's ticket  4
--     36  use: tag                1
--     37       time               4
use Rattle.std.specs.Prelude.{ℕ, ◌+◌, Bool, ◌&&◌, List, [], ◌∷◌, ◌++◌, get_or}
use Rattle.record.specs.declared.nodes.Node.{Node}
use Rattle.record.specs.declared.queues.Processor.{Processor}
use Rattle.image.specs.Numbers.{bytes_of32, number32, eight}
use Rattle.image.specs.Tags.{Timed, Code, timed, stamp_timed, stamp_of, stamp_taken}
use Rattle.image.specs.Tags.{use_timed, use_of, use_taken, code, stage_code, stage_of, stage_taken}

-- what bytes are read as, and whether they are the ones that are written for it
pub record NodeRead : Type 0 where
  pub ok : Bool
  pub node : Node

pub record ProcessorRead : Type 0 where
  pub ok : Bool
  pub processor : Processor

abbrev pub timed_bytes : Timed → List ℕ
timed_bytes x = x.tag ∷ bytes_of32 x.time

abbrev pub timed_at : List ℕ → ℕ → Timed
timed_at b i = timed (get_or b i 0) (number32 b (i + 1))

-- a stage stands in two parts of a processor
abbrev pub code_bytes : Code → List ℕ
code_bytes x = x.tag ∷ x.node ∷ x.level ∷ x.ahead ∷ []

abbrev pub errand_bytes : Code → List ℕ
errand_bytes x = (x.job ∷ []) ++ bytes_of32 x.due ++ bytes_of32 x.ticket

abbrev pub code_at : List ℕ → Code
code_at b =
    code (get_or b 5 0) (get_or b 6 0) (get_or b 7 0) (get_or b 8 0) (get_or b 17 0) (number32 b 18)
    (number32 b 22)

abbrev pub links_image : Node → List ℕ
links_image n =
    eight n.forward 0 ++ eight n.level_locks 0 ++ (n.node_lock ∷ []) ++ (n.mark ∷ [])

abbrev pub entry_image : Node → List ℕ
entry_image n =
    timed_bytes (stamp_timed n.stamp)
    ++ bytes_of32 n.due
    ++ bytes_of32 n.ticket
    ++ bytes_of32 n.item
    ++ (n.height ∷ [])
    ++ timed_bytes (use_timed n.state)

unfoldable pub node_image : Node → List ℕ
node_image n = links_image n ++ entry_image n

-- the node in 41 bytes, and whether they are taken: the stamp and the use are ones that are written
unfoldable pub read_node : List ℕ → NodeRead
read_node b = record {
  ok = stamp_taken (timed_at b 18) && use_taken (timed_at b 36);
  node = record {
    forward = eight b 0;
    level_locks = eight b 8;
    node_lock = get_or b 16 0;
    mark = get_or b 17 0;
    stamp = stamp_of (timed_at b 18);
    due = number32 b 23;
    ticket = number32 b 27;
    item = number32 b 31;
    height = get_or b 35 0;
    state = use_of (timed_at b 36);
  };
}

unfoldable pub processor_image : Processor → List ℕ
processor_image c =
    bytes_of32 c.begin
    ++ (c.own ∷ [])
    ++ code_bytes (stage_code c.stage)
    ++ eight c.saved 0
    ++ errand_bytes (stage_code c.stage)

-- the processor in 26 bytes, and whether they are taken: the stage is one that is written
unfoldable pub read_processor : List ℕ → ProcessorRead
read_processor b = record {
  ok = stage_taken (code_at b);
  processor = record
      { begin = number32 b 0; own = get_or b 4 0; stage = stage_of (code_at b); saved = eight b 9 };
}

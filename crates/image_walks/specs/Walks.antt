-- The Search, the Lock-seek and the stage that frees the node, of an Insert and of a removal, by
-- their tags.
use Rattle.std.specs.Prelude.{Bool, true, false, ℕ}
use Rattle.record.specs.declared.stages.Insert.TheVariants as ins
use Rattle.record.specs.declared.stages.Removal.TheVariants as rem
use Rattle.record.specs.declared.stages.Seek.TheVariants as seek
use Rattle.image.specs.Tags.{anywhere, insert_tag, removal_tag}

-- the tag of the Search, of a removal or of an Insert
abbrev pub search_tag : Bool → ℕ
search_tag true = removal_tag (rem.Search anywhere)
search_tag false = insert_tag (ins.Search anywhere)

-- the first of the four tags of the Lock-seek; the one after them is that of the stage after it
abbrev pub seek_tag : Bool → ℕ
seek_tag true = removal_tag (rem.Seek (seek.Approach anywhere))
seek_tag false = insert_tag (ins.Seek (seek.Approach anywhere))

-- the tag of I4 and of L7
abbrev pub free_node_tag : Bool → ℕ
free_node_tag true = removal_tag rem.FreeNode
free_node_tag false = insert_tag ins.FreeNode

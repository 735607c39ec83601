use Rattle.std.proofs.Common.{rules, ◌≡◌, ◌≤◌, ◌<◌, ◌≢◌, ℕ, length, slice_index}
use Rattle.sheet_format.specs.Letters.{space}
use Rattle.sheet_format.proofs.Spaces.{spaces_told}
use Rattle.sheet_format.proofs.columns.spaces_before.Goals as goal

pub returns-clause-value : goal.returns-clause-value
returns-clause-value c =
    let s = c.args.columns.now in
    let n = c.unwrap_or.result in
    let w : n ≤ length s = search rules in
    let b : (k : ℕ) → k < n → slice_index s k ≡ space = search rules in
    let f : n < length s → slice_index s n ≢ space = search rules in
    spaces_told s n w b f

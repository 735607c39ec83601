use Rattle.std.proofs.Common.{◌≡◌, ◌+◌, ◌-◌, ◌%◌, ◌/◌, ◌∷◌, [], ◌∙◌, ap, refl, ℕ, arith}
use borrow.Rule.Slice.PartMut.{put_mid}
use Rattle.image.specs.Numbers.{bytes_of32}
use Rattle.image.specs.Puts.{puts}
use Rattle.image.proofs.Runs.{put_mid-puts, run_four}
use Rattle.image.proofs.numbers.put_number.Goals as goal

pub returns : goal.returns
returns c =
    let a = c.args in
    let b = a.b.now in
    let at = a.o + a.j in
    let v = a.v in
    let top : v / 16777216 % 256 ≡ v / 16777216 = omega arith in
    ap (put_mid at (at + 4 - at) b)
    (c.copy_from_slice.ensures.after ∙ c.to_le_bytes.ensures
    ∙ ap (λ (w : ℕ). v % 256 ∷ v / 256 % 256 ∷ v / 65536 % 256 ∷ w ∷ []) top)
    ∙ put_mid-puts b (bytes_of32 v) at (at + 4) a.o a.j refl refl (omega arith)
    ∙ ap (puts b a.o) (run_four a.j v)

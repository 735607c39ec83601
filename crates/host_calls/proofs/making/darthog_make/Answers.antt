use mathlib.Core.Path.{◌≡◌, sym, ◌∙◌}
use Rattle.std.specs.Prelude.{None}
use Rattle.std.specs.Result.{result_err}
use Rattle.record_check.specs.Making.{made}
use Rattle.record_check.proofs.MadeLaws.{made_sizes}
use Rattle.host_calls.proofs.Stored.{not_made_lem, not_long, made_in, some_length, outside_not}
use Rattle.host_calls.proofs.making.darthog_make.Goals as goal

pub returns-in-Some : goal.returns-in-Some
returns-in-Some c =
    let b = c.args.image.now in
    let p = c.args.processors in
    let n = c.args.entries in
    let l = c.args.levels in
    let d = not_made_lem b p n l c.in-Some.refusal c.in-Some.ensures in
    record { value = c.number.ensures ∙ d.0; image_after = d.1 }

pub returns-then-image-darthog_image_length : goal.returns-then-image-darthog_image_length
returns-then-image-darthog_image_length c =
    let b = c.args.image.now in
    let p = c.args.processors in
    let n = c.args.entries in
    let l = c.args.levels in
    let z : result_err (made p n l) ≡ None = sym c.in_default.ensures in
    let t = made_sizes p n l z in
    let k = some_length p n (outside_not p n l z).0 (outside_not p n l z).1 in
    let r =
    not_long b p n l z
    (λ h. c.if-image-darthog_image_length.true (h ∙ k ∙ sym c.darthog_image_length.ensures)) in
    record { value = c.number-then-image-darthog_image_length.ensures ∙ r.0; image_after = r.1 }

pub make_at-requires : goal.make_at-requires
make_at-requires c =
    let b = c.args.image.now in
    let p = c.args.processors in
    let n = c.args.entries in
    let l = c.args.levels in
    let z : result_err (made p n l) ≡ None = sym c.in_default.ensures in
    let t = made_sizes p n l z in
    let k = some_length p n (outside_not p n l z).0 (outside_not p n l z).1 in (
      c.if-image-darthog_image_length.false ∙ c.darthog_image_length.ensures
          ∙ sym k,
      t.processors_low,
      t.processors_high,
      t.nodes_low,
      t.nodes_high,
      t.levels_low,
      t.levels_high,
    )

pub returns : goal.returns
returns c =
    let b = c.args.image.now in
    let p = c.args.processors in
    let n = c.args.entries in
    let l = c.args.levels in
    let z : result_err (made p n l) ≡ None = sym c.in_default.ensures in
    let t = made_sizes p n l z in
    let k = some_length p n (outside_not p n l z).0 (outside_not p n l z).1 in
    let r =
    made_in b p n l z _
    (c.if-image-darthog_image_length.false ∙ c.darthog_image_length.ensures ∙ sym k)
    c.make_at.ensures.image_after in
    record { value = r.0; image_after = r.1 }

-- The tag of a line's file leads back to that line and that file.
use Rattle.std.proofs.Common.{◌≡◌, ℕ, true, ◌+◌, ◌-◌, ◌*◌, ◌<◌, arith, refl}
use Rattle.std.specs.Prelude.{Some, nat_le}
use Rattle.std.proofs.lemmas.Nat.{div-mul-add, mod-mul-add}
use Rattle.std.proofs.lemmas.Bool.{le-leb}
use Rattle.kf_driver.specs.declared.line_tags.LineTags.{LineTags}
use Rattle.kf_driver.specs.Places.{place_of}

pub placed : (tags : LineTags) (line file : ℕ) → file < tags.files
    → place_of tags (line * tags.files + tags.first + file) ≡ Some (line, file)
placed tags line file within =
    let tag = line * tags.files + tags.first + file in
    let low : nat_le tags.first tag ≡ true = le-leb tags.first tag (omega arith) in
    let rest : tag - tags.first ≡ line * tags.files + file = omega arith in
    rw (low, rest, div-mul-add line tags.files file within, mod-mul-add line tags.files file within) refl

use Rattle.std.proofs.Common.{◌≡◌, ◌∙◌, sym, ap, None, map}
use Rattle.kf_table.specs.Directories.{empty_directory, directory_in}
use Rattle.kf_table.proofs.Boxes.{box_in, put_back_same, taken_away}
use Rattle.kf_table.proofs.directories.Directories.forget.Goals as goal

pub returns-then-not-is_empty : goal.returns-then-not-is_empty
returns-then-not-is_empty c = record {
  unchanged = put_back_same c.self.inside.boxes _ _ c.args.slot _ c.take.ensures.none c.put.ensures.put (ap directory_in c.in-Some.ensures.taken) ∙ c.self.view_is;
}

pub returns-else-not-is_empty : goal.returns-else-not-is_empty
returns-else-not-is_empty c =
    let seen = c.is_empty.ensures.known.0 c.if-not-is_empty.false in
    let at = c.deref.ensures in
    let is : c.in-Some.kept.value ≡ empty_directory = cc in
    record { unchanged = ap (map directory_in) c.take.ensures.none ∙ taken_away c.self.inside.boxes c.args.slot (sym (ap directory_in c.in-Some.ensures.taken) ∙ is) ∙ c.self.view_is }

pub returns-in_default : goal.returns-in_default
returns-in_default c =
    let none : box_in c.self.inside.boxes c.args.slot ≡ None = sym c.take.ensures.taken ∙ c.in_default.is in
    record { unchanged = ap (map directory_in) c.take.ensures.none ∙ taken_away c.self.inside.boxes c.args.slot (ap directory_in none) ∙ c.self.view_is }

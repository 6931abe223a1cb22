use Rattle.std.proofs.Common.{◌≡◌, ℕ, List, ◌∷◌, Option, Some, false, length, take, sym, ap, ◌∙◌, refl}
use Rattle.std.specs.Option.{option_map, option_and_then}
use Rattle.std.specs.List.{list_any, slice_split}
use Rattle.kf_looks.specs.declared.found.Found.{Found}
use Rattle.kf_looks.specs.declared.view.Link.{Link}
use Rattle.kf_looks.specs.Lines.{bytes_in}
use Rattle.kf_looks.specs.Links.{top, walked, child_of}
use Rattle.kf_core.specs.Paths.{is_slash, is_empty, later_parts}
use Rattle.kf_looks.specs.Packed.{found_of}
use Rattle.kf_looks.specs.Reading.{Tells}
use Rattle.kf_looks.proofs.Following.{goes_on, tells_on}
use Rattle.kf_looks.proofs.Seats.{same_again}
use Rattle.kf_looks.proofs.lookup_table.LookupTable.follow.Goals as goal

-- the walk goes on by one name
along : (links : List Link) (here child : Found) (name part : List ℕ) (text later : List (List ℕ)) → text ≡ part ∷ later → name ≡ part
    → child_of links here.key name ≡ Some child → walked links here text ≡ walked links child later
along links here child name part text later parts same is =
    ap (walked links here) parts
    ∙ ap (λ (o : Option Found). option_and_then (λ next. walked links next later) o) (ap (child_of links here.key) (sym same) ∙ is)

not_empty : (part : List ℕ) (text later : List (List ℕ)) → text ≡ part ∷ later → is_empty part ≡ false → list_any is_empty later ≡ list_any is_empty text
not_empty part text later parts some = sym (ap (list_any is_empty) parts ∙ rw some refl)

pub loop-rest-preserved : goal.loop-rest-preserved
loop-rest-preserved c =
    let slots : ℕ = c.args.self.now.slots in let all : List (List ℕ) = slice_split is_slash c.args.parts.now in
    let here : Found = found_of c.loop-rest.here.key c.loop-rest.here.more c.loop-rest.here.shape in
    let child : Found = found_of c.in_ok-here.here.key c.in_ok-here.here.more c.in_ok-here.here.shape in
    let text : List (List ℕ) = slice_split is_slash c.in-Some.text.now in let part : List ℕ = c.first_part.result.0.now in
    let later : List (List ℕ) = later_parts (option_map (λ rest. rest.now) c.first_part.result.1) in
    let name : List ℕ = bytes_in c.in_ok-name.name in
    let front : take (length part) c.in-Some.text.now ≡ part = sym c.first_part.ensures.front in
    let was : later_parts (option_map (λ rest. rest.now) c.loop-rest.rest) ≡ text = ap (λ o. later_parts (option_map (λ rest. rest.now) o)) c.in-Some.is in
    record {
      same = same_again _ _ _ c.loop-rest.invariant.same c.step.ensures.same;
      named = not_empty part text later c.first_part.ensures.parts (sym (ap is_empty front) ∙ c.in_ok-name.ensures.named) ∙ (sym (ap (list_any is_empty) was) ∙ c.loop-rest.invariant.named);
      some = c.in_ok-here.ensures.some;
      found = goes_on c.args.seat.now.me.0.role c.loop-rest.seat.me.0.role c.step.new.seat.me.0.role
          (Tells slots (λ links. walked links (top c.args.from) all ≡ walked links here (later_parts (option_map (λ rest. rest.now) c.loop-rest.rest))))
          (Tells slots (λ links. child_of links here.key name ≡ Some child))
          (Tells slots (λ links. walked links (top c.args.from) all ≡ walked links child later))
          (λ content first then links says. first links says ∙ (ap (walked links here) was
          ∙ along links here child name part text later c.first_part.ensures.parts (c.in_ok-name.ensures.same ∙ front) (then links says)))
          c.loop-rest.invariant.found c.in_ok-here.ensures.found;
    }

pub returns-clause-found : goal.returns-clause-found
returns-clause-found c =
    let slots : ℕ = c.args.self.now.slots in let all : List (List ℕ) = slice_split is_slash c.args.parts.now in let here : Found = found_of c.loop-rest.here.key c.loop-rest.here.more c.loop-rest.here.shape in
    let it : here ≡ c.found.result = sym c.found.ensures.same in
    tells_on c.args.seat.now.me.0.role c.loop-rest.seat.me.0.role
    (Tells slots (λ links. walked links (top c.args.from) all ≡ walked links here (later_parts (option_map (λ rest. rest.now) c.loop-rest.rest))))
    (Tells slots (λ links. walked links (top c.args.from) all ≡ Some c.found.result))
    (λ content first links says. first links says ∙ (ap (λ o. walked links here (later_parts (option_map (λ rest. rest.now) o))) c.in_default.is ∙ ap (λ (f : Found). Some f) it))
    c.loop-rest.invariant.found

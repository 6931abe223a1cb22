-- The links that look-ups have seen are of the run, as all links are.
use Rattle.std.proofs.Common.{◌≡◌, ℕ, List, refl, sym, ◌∙◌, subst}
use Rattle.kf_looks.specs.declared.view.Link.{Link}
use Rattle.kf_looks.specs.Links.{IsLater}
use Rattle.kf_looks.specs.Rule.{Knows, Table, opened}
use Rattle.kf_looks.proofs.Allowed.{opening_kept}
use Rattle.kf_shared.specs.Links.{AreOfRun}
use Rattle.kf_shared.specs.Locked.{Locked, history}
use Rattle.kf_shared.specs.LookUps.{AreItsWords, HasSeen, LookUpsStart, LookUpsAreOfRun, LookUpsGoOn}
use Rattle.kf_shared.proofs.OfRun.{run_part, run_earlier}

module _ (slots : ℕ) (words : Table) (s : Locked) (its : AreItsWords slots words s) where
  -- the links of the words are those that the writer made
  kept_links : its.kept.links ≡ s.links
  kept_links =
      let knows = subst (Knows its.kept.version its.kept.draft its.kept.links 0) its.writes (its.kept.seats 0 its.writer its.seated).1 in
      sym knows.0.links_are ∙ its.made

  later_run : (seen : List Link) → IsLater s.links seen → AreOfRun s.state.root seen (history s)
  later_run seen later = run_earlier s.state.root later.0 seen (history s) (subst (λ links. AreOfRun s.state.root links (history s)) later.1 its.led)

  -- the links that a seat has seen are of the run
  seen_run : (seat : ℕ) (seen : List Link) → HasSeen words seat seen → AreOfRun s.state.root seen (history s)
  seen_run seat seen has =
      let later : IsLater its.kept.links has.0.seen = (its.kept.seats seat has.0 has.1).2 in
      let all = later_run has.0.seen (subst (λ links. IsLater links has.0.seen) kept_links later) in
      run_earlier s.state.root has.2.0 seen (history s) (subst (λ links. AreOfRun s.state.root links (history s)) has.2.1 all)

pub look_ups_start : LookUpsStart
look_ups_start slots version s led none = record {
  led = led;
  kept = opening_kept slots version;
  writer = opened slots version;
  seated = refl;
  writes = refl;
  made = sym none;
}

pub look_ups_are_of_run : LookUpsAreOfRun
look_ups_are_of_run slots words s seat seen its has =
    let part = run_part s.state.root seen (history s) (seen_run slots words s its seat seen has) in
    (part.0, part.1, part.2)

pub look_ups_go_on : LookUpsGoOn
look_ups_go_on slots words s seat seen before its has later =
    let now = run_part s.state.root seen (history s) (seen_run slots words s its seat seen has) in
    let then = run_part s.state.root before now.0 (run_earlier s.state.root later.0 before now.0 (subst (λ links. AreOfRun s.state.root links now.0) later.1 now.3)) in
    (now.0, then.0, then.1, now.1, now.2, then.2)

-- A list of steps leads from one table to only one table, since each step is determined by its kind and by
-- what it finds.
use Rattle.std.proofs.Common.{◌≡◌, ℕ, [], ◌∷◌, ◌++◌, set, sym, ap, ◌∙◌, subst}
use Rattle.std.specs.Prelude.{max}
use mathlib.Core.Option.{some-injective}
use Rattle.atomic_table.specs.Table.{stepped, keeps}
use Rattle.kf_notify.specs.declared.view.NumberView.{NumberView}
use Rattle.kf_notify.specs.Rule.{Table, IsSeated, number_at}
use Rattle.kf_notify.specs.Steps.{loaded, raised, doubled}
use Rattle.kf_notify.specs.TableSteps.{NumberStepKind, loads, raises, doubles, NumberStep, NumberRun}
use Rattle.kf_notify.specs.History.{OneEnd}

-- a seat has only one view
one_view : (t : Table) (seat : ℕ) (v w : NumberView) → IsSeated t seat v → IsSeated t seat w → v ≡ w
one_view t seat v w a b = some-injective v w (sym a ∙ b)

one_step : (slots : ℕ) (t u v : Table) (kind : NumberStepKind) → NumberStep slots t kind u → NumberStep slots t kind v → u ≡ v
one_step slots t u v (loads seat slot) p q =
    p.3 ∙ ap (λ (w : NumberView). stepped t slot (number_at t slot) seat [] (loaded slot (number_at t slot) w) keeps) (one_view t seat p.0 q.0 p.1 q.1) ∙ sym q.3
one_step slots t u v (raises seat slot number) p q =
    p.5 ∙ ap (λ (w : NumberView). stepped t slot (max (number_at t slot) number) seat [] (raised number w) keeps) (one_view t seat p.0 q.0 p.1 q.1) ∙ sym q.5
one_step slots t u v (doubles seat) p q =
    p.2 ∙ ap (λ (w : NumberView). let x : Table = record { words = t.words; homes = t.homes; views = set t.views seat w ++ doubled w ∷ [] } in x) (one_view t seat p.0 q.0 p.1 q.1) ∙ sym q.2

pub one_end : OneEnd
one_end slots t u v [] p q = p ∙ sym q
one_end slots t u v (kind ∷ kinds) p q =
    let between : q.0 ≡ p.0 = one_step slots t q.0 p.0 kind q.1 p.1 in
    one_end slots p.0 u v kinds p.2 (subst (λ (x : Table). NumberRun slots x kinds v) between q.2)

use Rattle.std.proofs.Common.{◌≡◌, ℕ, List, true, false, ap, sym, subst, ◌∙◌, inl, inr}
use Rattle.std.specs.Prelude.{Ok}
use Rattle.std.proofs.lemmas.Result.{err_from_is_err_and}
use Rattle.kf_core.specs.declared.key.Key.{Key}
use Rattle.kf_core.specs.declared.command.Command.TheVariants.{Rename}
use Rattle.kf_core.specs.declared.refusal.Refusal.{Refusal}
use Rattle.kf_table.specs.Children.{is_there_already}
use Rattle.kf_tree.specs.TreeLogs.{TreeLog, IsAccepted}
use Rattle.kf_words.specs.declared.note.Note.TheVariants.{Did}
use Rattle.kf_shared.specs.Locked.{Adds, move_cause}
use Rattle.kf_registry.specs.Refusals.{SwapCause}
use Rattle.kf_registry.proofs.Backs.{moved_away}
use Rattle.kf_registry.proofs.Refusals.{hold_cause, move_refused, not_given, plain_at, seen_same, unnamed}
use Rattle.kf_registry.proofs.swapping.move_away.Goals as goal

pub returns-in_err-old-clause-refused : goal.returns-in_err-old-clause-refused
returns-in_err-old-clause-refused g c =
    let p = err_from_is_err_and c.from_residual.result c.from_residual.ensures.1 in
    rw p.1 (λ (name : List ℕ). unnamed _ _ _ _ (seen_same c.state.result.now c.args.editor.now.state c.args.path.now _ c.state.ensures.same c.in_err-old.ensures.seen) p.2)

pub returns-in_err-hold-clause-refused : goal.returns-in_err-hold-clause-refused
returns-in_err-hold-clause-refused g c =
    let p = err_from_is_err_and c.from_residual-in_err-hold.result c.from_residual-in_err-hold.ensures.1 in
    let old = c.args.editor.now in
    let key = c.in_ok-old.old in
    rw p.1 (λ (name : List ℕ). subst (λ (why : Refusal). SwapCause c.args.path.now name why old.state.tree old.state.root) (sym p.2)
    (not_given old.state.tree old.state.root key c.args.path.now name _
    (seen_same c.state.result.now old.state c.args.path.now (Ok key) c.state.ensures.same c.in_ok-old.ensures.seen)
    (plain_at c.state-2.result.now old.state key c.is_hot.result c.state-2.ensures.same c.is_hot.ensures.hot c.if-is_hot.false)
    (inl (hold_cause old c.hold.new.self key _ c.in_err-hold.ensures.refused))))

pub returns-in_err-rename-clause-refused : goal.returns-in_err-rename-clause-refused
returns-in_err-rename-clause-refused g c =
    let p = err_from_is_err_and c.from_residual-in_err-rename.result c.from_residual-in_err-rename.ensures.1 in
    let old = c.args.editor.now in
    let mid = c.hold.new.self in
    let key = c.in_ok-old.old in
    let is : c.root-root.result ≡ mid.state.root = c.root-root.ensures.known ∙ ap (λ (s : TreeLog). s.root) c.state-3.ensures.same in
    rw p.1 (λ (name : List ℕ). subst (λ (why : Refusal). SwapCause c.args.path.now name why old.state.tree old.state.root) (sym p.2)
    (not_given old.state.tree old.state.root key c.args.path.now name _
    (seen_same c.state.result.now old.state c.args.path.now (Ok key) c.state.ensures.same c.in_ok-old.ensures.seen)
    (plain_at c.state-2.result.now old.state key c.is_hot.result c.state-2.ensures.same c.is_hot.ensures.hot c.if-is_hot.false)
    (inr (c.leaving_name.result, c.leaving_name.ensures.leaving, inl (move_refused old mid c.rename.new.self key c.root-root.result c.leaving_name.result _ c.in_ok-hold.ensures.state is c.in_err-rename.ensures.refused)))))

pub returns-clause-moved : goal.returns-clause-moved
returns-clause-moved g c =
    let old = c.args.editor.now in
    let mid = c.hold.new.self in
    let new = c.rename.new.self in
    let key = c.in_ok-old.old in
    let away = c.leaving_name.result in
    let done = c.in_ok-rename.ensures in
    let is : c.root-root.result ≡ mid.state.root = c.root-root.ensures.known ∙ ap (λ (s : TreeLog). s.root) c.state-3.ensures.same in (
      away,
      moved_away old mid new c.args.path.now away key
          (seen_same c.state.result.now old.state c.args.path.now (Ok key) c.state.ensures.same c.in_ok-old.ensures.seen)
          (plain_at c.state-2.result.now old.state key c.is_hot.result c.state-2.ensures.same c.is_hot.ensures.hot c.if-is_hot.false)
          c.leaving_name.ensures.leaving
          c.in_ok-hold.ensures.state c.in_ok-hold.ensures.words.history
          (subst (λ (d : Key). is_there_already mid.state.tree key d away ≡ true → new.state ≡ mid.state) is done.stays)
          (subst (λ (d : Key). is_there_already mid.state.tree key d away ≡ false → IsAccepted mid.state new.state (move_cause mid key d away) (Rename key d away)) is done.accepted)
          (subst (λ (d : Key). is_there_already mid.state.tree key d away ≡ false → Adds mid new (Did (Rename key d away))) is done.noted)
          (subst (λ (d : Key). is_there_already mid.state.tree key d away ≡ true → new.master ≡ mid.master) is done.unnoted),
    )

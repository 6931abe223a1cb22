-- What a plug leaves behind if it stops.
use Rattle.std.proofs.Common.{◌≡◌, inr, refl, subst, sym, List}
use Rattle.std.specs.Prelude.{Result, Ok, Err, IfOk, OnOk, OnErr}
use Rattle.std.specs.Result.{result_ok}
use Rattle.kf_core.specs.declared.command.Command.TheVariants.{Doom}
use Rattle.kf_core.specs.declared.key.Key.{Key}
use Rattle.kf_core.specs.declared.refusal.Refusal.{Refusal}
use Rattle.kf_core.specs.PostOrder.{IsPostOrder}
use Rattle.kf_tree.specs.Causes.{doom_cause}
use Rattle.kf_tree.specs.TreeLogs.{IsAccepted}
use Rattle.kf_shared.specs.Locked.{Locked, Unchanged}
use Rattle.kf_shared.specs.Removal.{keys_of}
use Rattle.kf_words.specs.Callers.{Handle}
use Rattle.kf_device.specs.Plugs.{HasBases}
use Rattle.kf_device.specs.Stops.{FewBases, TakesBack}

unchanged : (s : Locked) → Unchanged s s
unchanged s = record {
  root = refl;
  tree = refl;
  commands = refl;
  claims = refl;
  master = record { table = refl; limit = refl; nodes = refl; slots = refl; history = refl };
}

-- a state that is the same is unchanged
pub same_unchanged : (s s' : Locked) → s' ≡ s → Unchanged s s'
same_unchanged s s' e = subst (λ x. Unchanged s x) (sym e) (unchanged s)

-- all bases were made or were there already, and then nothing changed
pub few_of_all : (s based s' : Locked) (devices links : Key) → HasBases s based devices links → Unchanged based s' → FewBases s s'
few_of_all s based s' devices links b same =
    inr (b.after_devices, devices, b.devices_there, inr (b.after_bus, b.bus, b.bus_there, inr (based, links, b.links_there, same)))

-- the removal was begun, or it was refused
pub takes_back : (s s' : Locked) (dir : Key) (r : Result (List Handle) Refusal) → IfOk r (λ holds. IsPostOrder s.state.tree dir (keys_of holds))
    → OnOk r (IsAccepted s.state s'.state (doom_cause s.state.tree s.state.root dir) (Doom dir)) → OnErr r (Unchanged s s')
    → TakesBack s s' dir (result_ok r)
takes_back s s' dir (Ok holds) ordered done same = (ordered, done)
takes_back s s' dir (Err refusal) ordered done same = same

-- what is true anyway is true if the call was refused
pub on_err : {A E : Type 0} (r : Result A E) (P : Type 0) → P → OnErr r P
on_err (Ok a) P p = tt
on_err (Err e) P p = p

-- what follows from a statement about the returned value is true of the returned value
pub if_ok : {A E : Type 0} (P Q : A → Type 0) (r : Result A E) → ((a : A) → P a → Q a) → IfOk r P → IfOk r Q
if_ok P Q (Ok a) follows p = follows a p
if_ok P Q (Err e) follows p = tt

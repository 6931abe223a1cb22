-- `lent` lends the memory of a tree without a name at the type of a tree with a name.
use mathlib.Core.Path.{◌≡◌, refl}
use Prim.Native.Nat.{ℕ}
use mathlib.Core.List.{[], ◌∷◌}
use seplogic.Ra.Ura.{Ura}
use mir.Syntax.{Args, Dict, dcons, dnil, Body, Fn, named, a_type, seq, assign, place, rv_opd, copy, return}
use mir.MapTy.{inst_fn}
use mir.Val.{Val, vptr}
use base.Logic.{SProp, ent}
use base.Fml.{Lft, GName, Share, ftrue, flft}
use prog.Memory.{Memory}
use prog.Routine.{Routine}
use prog.Wp.{Env, Calls, Loops, WpFn, Tables}
use types.Logic.{Logic}
use contract.BorrowLft.{◌⊑◌}
use contract.Lifetimes.{AllOutlive}
use contract.Monad.{Fun, fact}
use contract.Running.{tables, tables_of}
use sound.WpLaws.{WpFn-mono}
use types.Kit.{‵, ◌⊛◌, raw, some, later, at_ret, ◌$◌, ◌∵◌, !, qed, by, move, keep, drop, split, split3, join, fsplit, fjoin, use2, await, pick, suffices, frame, done}
use types.Run.{stop, addr, of_opd, first, blocks, exec, returns, enter}
use types.ByLocal.{alloc_all, pass_all, free_all, look_at, get, through, sets, sets_last, env}
use denote.Builtin.{RefMutOf}
use denote.Exit.{no}
use denote.Param.{bounded, param}
use denote.RattleType.{RattleType, owns}
use denote.Ref.{MutBor, MutRef, mut_vals, mut_Tells}
use denote.Signature.{plain}
use denote.Steps.{nothing, heard}
use denote.Triple.Clauses.{Clauses, Ended, closing}
use denote.Triple.Entry.{on_entry}
use denote.Triple.Spec.{Meets, triple_of}
use denote.Triple.Table.{entered}
use denote.Triple.Walked.{says, Stays, stay_dropped, walk_of, ends_at, walked, Goes-spent_ref, walk_Meets}
use Rattle.kf_shared.specs.Locked.{Locked}
use Rattle.kf_shared.specs.declared.naming.Naming.{Ghosts}
use Rattle.kf_shared.specs.contracts.tree.NewTree as new
use Rattle.kf_shared.specs.contracts.tree.NewTree.lent as F
use Rattle.kf_shared.specs.contracts.tree.NewTree.lent.Key.{name as #self}
use Rattle.kf_shared.proofs.Renamed.{lent_item, lends_named}
use Rattle.kf_shared.proofs.tree.NewTree.lent.Statement as stated
use Rattle.kf_shared.proofs.tree.NewTree.lent.Code as code

module _ (X : RattleType) (g : Ghosts X.Denot) (d : Dict) where
  abbrev args : Args
  args = bounded (a_type ∷ []) (X, tt) (dcons d dnil)

  abbrev function : Fn
  function = inst_fn args code.function

  abbrev ended : Ended
  ended = F.ended X g d

  abbrev stayed : Stays ended.signature.params ended.kept
  stayed = (stay_dropped (RefMutOf (0 ∷ []) tt (plain (λ _. new.the_row)) (λ _. tt)) no, tt)

abbrev rest : Body
rest = seq (assign (place 0 []) (rv_opd (copy (place 4 [])))) return

module _ (X : RattleType) (g : Ghosts X.Denot) (d : Dict) {M : Type 1} {𝓤 : Ura M} (𝓛 : Logic 𝓤) (at_mem : Memory → SProp 𝓤) (run : Routine → Fun 𝓤) where
  open 𝓛 use {H}

  abbrev clauses : Clauses 𝓤 (ended X g d)
  clauses = F.clauses X g d 𝓛 at_mem run

  module _ (C : Calls 𝓤 H) (Λ : Loops 𝓤 H) (κ κT : Lft) (q qT : Share) (bd : AllOutlive 2 (ended X g d).signature.outlives (κ, (κT, tt))) (b o : ℕ) (γ : GName) (x : Locked) (at : x.master.table ≡ g.table) where
    abbrev self : MutBor Locked
    self = record { ref_ptr = (b, o); ghost_name = γ; now = x }

    abbrev bound : (walk_of 𝓛 (ended X g d) (stayed X g d) clauses).Ghost
    bound = (((κ, (κT, tt)), (q, (qT, tt)), bd, (self, tt), (mut_vals self, tt)), tt)

    abbrev Post : Val → SProp 𝓤
    Post = (walk_of 𝓛 (ended X g d) (stayed X g d) clauses).post bound

    walk : ent 𝓤 (on_entry 𝓛 (ended X g d).signature (κ, (κT, tt)) (q, (qT, tt)) (self, tt) (mut_vals self, tt)) (WpFn 𝓤 H C Λ (function X g d) (vptr b o ∷ []) Post)
    walk =
        qed 𝓛 ((‵ (flft κ q) ⊛ ‵ (flft κT qT) ⊛ ‵ ftrue) ∷ ‵ (owns (MutRef (named 0) κ new.the_row ∷ []) (self, tt) (mut_vals self, tt)) ∷ []) ∵ enter ! C Λ (function X g d) (vptr b o ∷ []) _ $
        alloc_all ! (λ l. pass_all ! refl ((tt, tt), tt) $
        let En : Env 𝓤 H = env (function X g d).locals l in
        sets ! (addr ! (through ! refl (stop !))) refl (tt, tt) $
        sets ! (of_opd ! (get ! refl)) refl (tt, tt) $
        first ! $ blocks ! $
        sets_last ! (addr ! (through ! refl (stop !))) refl (tt, tt) $
        exec ! C Λ En rest (at_ret En Post) $
        sets ! (of_opd ! (get ! refl)) refl (tt, tt) $
        split ! $ move ! (2 ∷ []) $ fsplit ! $ move ! (0 ∷ 2 ∷ []) $
        use2 𝓛 (later (some (lent_item 𝓛 (param 0 X) g b o (named 0) κ q γ x))) (lends_named 𝓛 (param 0 X) g b o (named 0) κ q γ x at (vptr b o ∷ [])) $ await ! tt $ pick ! (λ δ.
        returns ! (look_at ! 0 refl) $ free_all ! refl $ keep ! (0 ∷ 2 ∷ []) $ split3 ! $
        suffices ! _ (ends_at 𝓛 (ended X g d) (stayed X g d) clauses bound (vptr b o) (record { ref_ptr = (b, o); ghost_name = δ; now = x }) (tt, tt) (tt, tt)) $
        nothing ! $ nothing ! $ fjoin ! $ join ! $ move ! (1 ∷ 3 ∷ []) $ join ! $ join ! $ frame ! $ says ! refl $ done !))

  meets : (𝓣 : Tables 𝓤 H) → Meets 𝓛 (ended X g d).signature (WpFn 𝓤 H 𝓣.C 𝓣.Λ (function X g d)) (closing 𝓛 (ended X g d) clauses)
  meets 𝓣 =
      walk_Meets 𝓛 (ended X g d) (stayed X g d) (Goes-spent_ref 𝓛 2 (0 ∷ []) tt (plain (λ _. new.the_row)), tt) clauses (WpFn 𝓤 H 𝓣.C 𝓣.Λ (function X g d)) (WpFn-mono 𝓤 H 𝓛.laws 𝓣 (function X g d))
      (walked 𝓛 (ended X g d) (stayed X g d) clauses (WpFn 𝓤 H 𝓣.C 𝓣.Λ (function X g d)) (λ κs. (mut_vals, tt)) (λ κs. (mut_Tells (named 0) κs.0 new.the_row, tt))
      (λ κs qs bounds a gh are.
      qed 𝓛 (raw (on_entry 𝓛 (ended X g d).signature κs qs a (mut_vals a.0, tt)) ∷ (raw (fact 𝓤 (κs.1.0 ⊑ X.lives)) ⊛ raw (fact 𝓤 (a.0.now.master.table ≡ g.table))) ∷ []) ∵
      move ! (1 ∷ []) $ split ! $ drop ! $ heard ! (a.0.now.master.table ≡ g.table) (λ at.
      by ! (walk 𝓣.C 𝓣.Λ κs.0 κs.1.0 qs.0 qs.1.0 bounds a.0.ref_ptr.0 a.0.ref_ptr.1 a.0.ghost_name a.0.now at))))

pub lent_spec : {M : Type 1} → stated.statement M
unfolding tables_of
lent_spec 𝓤 𝓛 𝓜 𝓡 wired X L g d met =
    let 𝓣 : Tables 𝓤 𝓛.H = tables_of 𝓤 𝓛.H 𝓜 (tables 𝓤 𝓛.H 𝓜 𝓡 𝓡.env) in
    entered 𝓤 𝓛.H (triple_of 𝓛 (F.signature X g d) (F.spec X g d 𝓛 𝓜.mem 𝓡.returns)) 𝓣.C 𝓣.Λ (#self (args X g d)) (function X g d) (code.unfolded 𝓤 𝓛.H 𝓜 𝓡 wired (X, tt) d)
    (meets X g d 𝓛 𝓜.mem 𝓡.returns 𝓣)

-- The seat moves into the struct.
use Rattle.std.proofs.Common.{◌≡◌, List, [], ◌∷◌, ◌++◌, refl}
use Rattle.std.proofs.raw_atomic.Walks.{proved}
use base.Fml.{ftrue, fsep, feq}
use mir.Val.{Val, vstruct, vcons, vnil, of_list}
use contract.Running.{tables}
use types.Kit.{‵, raw, ◌⊛◌, ◌$◌, ◌∵◌, !, qed, done, move, keep, split, join, fjoin, fpack, feq_i, suffices}
use types.Run.{enter, of_opd, no_more, and_then, returns}
use types.Part.{agg}
use types.ByLocal.{alloc_all, pass_all, free_all, look_at, get, sets}
use denote.Builtin.{unit}
use denote.Exit.{yes}
use denote.RattleType.{RattleType, owns, Valss}
use denote.Signature.{plain, types_at}
use denote.Steps.{nothing}
use denote.Triple.Entry.{alive}
use denote.Triple.Walked.{Stays, walk_of, says, stay_dropped, Goes-dropped, ends_at}
use Rattle.atomic_table.proofs.Fields.{token_val, token_told}
use Rattle.atomic_table.specs.contracts.shared.Seat as seat
use Rattle.kf_words.specs.contracts.sight.Sight as sight
use Rattle.kf_words.specs.contracts.master_token.MasterToken as token
use Rattle.kf_words.specs.contracts.master_token.MasterToken.new as f
use Rattle.kf_words.proofs.master_token.MasterToken.new.Statement.{statement}
use Rattle.kf_words.proofs.master_token.MasterToken.new.Code as code

abbrev row : RattleType
row = seat.the_row unit sight.the_row

abbrev stayed : Stays f.ended.signature.params f.ended.kept
stayed = (stay_dropped (plain (λ _. row)) yes, tt)

abbrev outer : Val
outer = vstruct (vcons token_val vnil)

pub new_spec : {M : Type 1} → statement M
new_spec 𝓤 𝓛 𝓜 𝓡 wired =
    let c = f.clauses 𝓛 𝓜.mem 𝓡.returns in let W = walk_of 𝓛 f.ended stayed c in let 𝓣 = tables 𝓤 𝓛.H 𝓜 𝓡 𝓡.env in
    proved 𝓛 f.ended stayed c 𝓜 𝓡 (Goes-dropped 𝓛 0 (plain (λ _. row)) yes (λ κs x w. refl), tt)
    f.Key.name code.function (code.unfolded 𝓤 𝓛.H 𝓜 𝓡 wired)
    (λ κs. ((λ _. token_val ∷ []), tt)) (λ κs. ((λ x vs so. token_told unit sight.the_row vs so.0), tt)) (λ κs qs bounds a gh are.
    let x : row.Denot = a.0 in let y : W.Ghost = ((κs, qs, bounds, a, (token_val ∷ [], tt)), tt) in
    qed 𝓛 ((raw (alive 𝓛 f.signature κs qs) ⊛ ‵ (owns (types_at f.signature.params κs) a y.0.4)) ∷ ‵ ftrue ∷ []) ∵
    split ! $ keep ! (1 ∷ []) $
    feq_i ! (List Val) (outer ∷ []) (outer ∷ []) refl $ fjoin ! $
    fpack ! (Valss (row ∷ [])) (λ vss. fsep (feq (List Val) (outer ∷ []) (vstruct (of_list (vss.0 ++ [])) ∷ [])) (owns (row ∷ []) (x, tt) vss)) (token_val ∷ [], tt) $
    nothing ! $ move ! (1 ∷ 0 ∷ []) $ fjoin ! $
    nothing ! $ fpack ! ((token.the_view (record { seat = x }) ≡ x) × token.the_invariant (record { seat = x })) (λ _. ftrue) (refl, tt) $ move ! (1 ∷ 0 ∷ []) $ fjoin ! $
    enter ! _ _ _ _ _ $ alloc_all ! (λ l. pass_all ! refl ((tt, (tt, tt)), tt) $
    sets ! (of_opd ! (get ! refl)) refl (tt, (tt, tt)) $
    sets ! (agg ! (and_then ! (get ! refl) (no_more !))) refl (tt, ((tt, tt), tt)) $
    returns ! (look_at ! 0 refl) $ free_all ! refl $
    suffices ! _ (ends_at 𝓛 f.ended stayed c y outer x (tt, tt) (tt, tt)) $ says ! refl $
    nothing ! $ nothing ! $ join ! $ nothing ! $ done !))

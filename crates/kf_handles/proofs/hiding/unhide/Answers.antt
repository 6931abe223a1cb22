use Rattle.std.proofs.Common.{◌≡◌, refl, ◌∙◌, subst}
use Rattle.kf_core.specs.declared.key.Key.{Key}
use Rattle.kf_shared.specs.Hiding.{ShowDone}
use Rattle.kf_handles.proofs.BySlot.{put_back, put_of_table, taken_of_table, table_of}
use Rattle.kf_handles.proofs.hiding.unhide.Goals as goal

-- the token looked, saw nobody inside, and then made the step that shows the file
pub returns-in-Ok-into_hidden-clause-told : goal.returns-in-Ok-into_hidden-clause-told
returns-in-Ok-into_hidden-clause-told g c =
    let found = c.in-Some.ensures.found in
    let hidden = c.in-Ok-into_hidden.hidden in
    let same : hidden.key ≡ c.args.key = c.in-Ok-into_hidden.ensures.same.key ∙ found.0.0 in (
      (
        c.in-Some.token,
        found.0,
        (hidden, c.in-Ok-into_hidden.ensures.looked, c.in-Ok-into_hidden.ensures.saw, c.show.result, c.show.ensures.hold.0, c.show.ensures.made),
      ),
      found.2,
      subst (λ (k : Key). ShowDone c.args.locked.now c.show.new.self k) same c.show.ensures.done,
      c.show.ensures.claims,
    )

-- the token looked, and is put back
pub returns-in-Err-into_hidden-clause-told : goal.returns-in-Err-into_hidden-clause-told
returns-in-Err-into_hidden-clause-told g c =
    let found = c.in-Some.ensures.found in
    let token = c.in-Err-into_hidden.token in
    let same = c.in-Err-into_hidden.ensures.same.key ∙ found.0.0 in (
      token,
      same,
      c.in-Err-into_hidden.ensures.saw,
      put_back c.args.tokens.now.items c.take.new.tokens.items c.put.new.tokens.items c.args.key token.key _ found.2 same c.put.ensures,
      (refl, c.in-Some.token, found.0, c.in-Err-into_hidden.ensures.looked),
    )

-- the token is of the table, as all tokens were before
pub returns-in-Err-into_hidden-clause-tokens : goal.returns-in-Err-into_hidden-clause-tokens
returns-in-Err-into_hidden-clause-tokens g c =
    let found = c.in-Some.ensures.found in
    let token = c.in-Err-into_hidden.token in
    let own : c.in-Some.token.table ≡ g.N.Naming.table = table_of g.N.Naming.table c.args.tokens.now.items c.args.key.slot c.in-Some.token c.requires found.0.1 in
    put_of_table g.N.Naming.table c.take.new.tokens.items c.put.new.tokens.items token.key.slot token
    (taken_of_table g.N.Naming.table c.args.tokens.now.items c.take.new.tokens.items c.args.key.slot c.requires found.2)
    (c.in-Err-into_hidden.ensures.same.table ∙ own) c.put.ensures

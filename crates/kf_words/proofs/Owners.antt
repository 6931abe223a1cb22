-- A maker of holds keeps a list of owners, which are all of one table.
use Rattle.std.proofs.Common.{◌≡◌, List, [], ◌∷◌, ◌++◌, Some}
use Rattle.std.proofs.lemmas.List.Elements.{All-pop}
use Rattle.kf_words.specs.declared.seat.Owner.{Owner}
use Rattle.kf_words.specs.Callers.{TableId}
use Rattle.kf_words.specs.Makers.{owned_table, AreOwnersOf}

-- if all owners of a list are of a table, so is the last one, and so are the others without it
pub popped : (table : TableId) (before after : List Owner) (last : Owner) → before ≡ after ++ last ∷ [] → AreOwnersOf table before → AreOwnersOf table after × (owned_table last ≡ table)
popped table before after last same all = All-pop (λ owner. owned_table owner ≡ table) before after (Some last) same all

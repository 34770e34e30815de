use Rattle.std.proofs.Common.{◌≡◌, ℕ, List, [], ◌∷◌, ◌||◌, map, refl, ◌∙◌, ap}
use Rattle.std.specs.List.{list_any}
use Rattle.std.specs.Str.{bytes_eq}
use Rattle.scql_base.specs.declared.changes.Change.{Change}
use Rattle.script.specs.Meanings.{is_among}
use Rattle.script.proofs.lists.changes_name.Goals as goal

list_any-names : (octets : List ℕ) (changes : List Change)
    → list_any (λ change. bytes_eq change.pair.0 octets) changes ≡ is_among octets (map (λ change. change.0) (map (λ change. change.pair) changes))
list_any-names octets [] = refl
list_any-names octets (change ∷ changes) = ap (λ others. bytes_eq change.pair.0 octets || others) (list_any-names octets changes)

pub returns : goal.returns
returns c =
    c.are_changes_of.ensures
    ∙ (list_any-names c.args.octets.now c.as_slice.result.now ∙ ap (λ changes. is_among c.args.octets.now (map (λ change. change.0) changes)) c.as_slice.ensures.changes)

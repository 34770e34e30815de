-- Rows that are spelled alike are the same.
use Rattle.std.proofs.Common.{◌≡◌, List, ℕ, ap, rules, sym, ◌∙◌}
use Rattle.std.specs.Bool.{Decides}
use Rattle.std.specs.List.{flat_map}
use Rattle.std.proofs.lemmas.Bool.Decides.{Decides-like}
use Rattle.std.proofs.lemmas.Option.{same_Some}
use Rattle.scql_base.specs.Strings.{params_of, spelled}
use Rattle.scql_base.proofs.Splitting.{params_of-again}
use Rattle.plain_machine.proofs.same.RowSame.is_same.Goals as goal

same-spelled : (row other : List (List ℕ)) → flat_map spelled row ≡ flat_map spelled other → row ≡ other
same-spelled row other is = same_Some row other (sym (params_of-again row) ∙ (ap params_of is ∙ params_of-again other))

pub returns : goal.returns
returns c =
    let alike : Decides c.eq.result (flat_map spelled c.args.self.now ≡ flat_map spelled c.args.other.now) = search rules in
    Decides-like c.eq.result (same-spelled c.args.self.now c.args.other.now) (λ is. ap (flat_map spelled) is) alike

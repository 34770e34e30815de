-- What holds of each of joined languages holds of all as one.
use Rattle.std.proofs.Common.{◌≡◌, ℕ, ◌+◌, ◌-◌, nat_le, List, [], ◌∷◌, ◌++◌, length, take, if◌then◌else◌, suc, refl, sym, ap, subst}
use Rattle.scql_model.specs.Database.{Database}
use Rattle.scql_model.specs.Heard.{IsKept, IsLawful, after_commits, commits_of, commits_to, committed_in, heard}
use Rattle.scql_model.specs.Joining.{joined_lines}
use Rattle.scql_model.specs.Lines.{Language, line_effect, line_step, line_text}
use Rattle.scql_model.specs.Lives.{IsPowerCycle}
use Rattle.scql_model.specs.Opens.{Opens}
use Rattle.scql_model.specs.Tries.{SparesTries}

joined-commits : {I : Type 0} {S : I → Type 0} (L : (i : I) → Language (S i)) (i : I) (state : S i) (lines : List (List ℕ)) → commits_of (joined_lines L) (i, state) lines ≡ commits_of (L i) state lines
unfolding line_step
joined-commits L i state [] = refl
joined-commits L i state (line ∷ lines) = ap (λ (commits : List Database). (line_effect (L i) state line).commits ++ commits) (joined-commits L i (line_step (L i) state line) lines)

joined-heard : {I : Type 0} {S : I → Type 0} (L : (i : I) → Language (S i)) (i : I) (state : S i) (lines : List (List ℕ)) (g : ℕ) → heard (joined_lines L) (i, state) lines g ≡ heard (L i) state lines g
unfolding line_step line_text
joined-heard L i state [] g = refl
joined-heard L i state (line ∷ lines) g =
    let size : ℕ = length (line_text (L i) state line) in
    ap (λ (n : ℕ). if nat_le size g then suc n else 0) (joined-heard L i (line_step (L i) state line) lines (g - size))

joined-kept : {I : Type 0} {S : I → Type 0} (L : (i : I) → Language (S i)) (i : I) (state : S i) (lines : List (List ℕ)) (counted g : ℕ) (left : List ℕ)
    → IsKept (L i) state lines counted g left → IsKept (joined_lines L) (i, state) lines counted g left
joined-kept L i state lines counted g left kept =
    let same : heard (joined_lines L) (i, state) (take counted lines) g ≡ heard (L i) state (take counted lines) g = joined-heard L i state (take counted lines) g in
    let to : (k : ℕ) → commits_to (joined_lines L) (i, state) lines k ≡ commits_to (L i) state lines k = λ k. ap (λ (commits : List Database). length commits) (joined-commits L i state (take k lines)) in
    record {
      commits = kept.commits;
      least = rw (same, to (heard (L i) state (take counted lines) g)) kept.least;
      most = rw (same, to (heard (L i) state (take counted lines) g + 1)) kept.most;
      opens = subst (λ (commits : List Database). Opens left (after_commits (committed_in (L i) state) commits kept.commits)) (sym (joined-commits L i state lines)) kept.opens;
    }

-- a power cycle in one of the languages is one in all
pub joined-cycle : {I : Type 0} {S : I → Type 0} (L : (i : I) → Language (S i)) (i : I) (image : List ℕ) (first : S i) (lines : List (List ℕ)) (clean given : ℕ) (left : List ℕ)
    → IsPowerCycle (L i) image (record { first = first; lines = lines; clean = clean; given = given; left = left })
    → IsPowerCycle (joined_lines L) image (record { first = (i, first); lines = lines; clean = clean; given = given; left = left })
joined-cycle L i image first lines clean given left went = record {
  opens = went.opens;
  starts = went.starts;
  kept = joined-kept L i first lines clean given left went.kept;
}

pub joined-lawful : {I : Type 0} {S : I → Type 0} (L : (i : I) → Language (S i)) → ((i : I) → IsLawful (L i)) → IsLawful (joined_lines L)
joined-lawful L lawful = record {
  last = λ state line. (lawful state.0).last state.1 line;
  silent = λ state line. (lawful state.0).silent state.1 line;
}

pub joined-spare : {I : Type 0} {S : I → Type 0} (L : (i : I) → Language (S i)) → ((i : I) → SparesTries (L i)) → SparesTries (joined_lines L)
joined-spare L spares = record {
  machine = λ stamp state line. (spares state.0).machine stamp state.1 line;
  commits = λ stamp state line. (spares state.0).commits stamp state.1 line;
}

-- What a power loss leaves of a run, line by line.
use Rattle.std.proofs.Common.{◌≡◌, inl, inr, ℕ, zero, suc, ◌+◌, ◌-◌, ◌≤◌, List, [], ◌∷◌, ◌++◌, length, take, refl, sym, ap, subst, ◌∙◌, arith, length-append}
use Rattle.std.proofs.lemmas.Bool.{le-leb}
use Rattle.std.proofs.lemmas.Bool.Decides.{leb_tells}
use Rattle.std.specs.Prelude.{codes}
use Rattle.hex.specs.Hex.{encode_upper}
use Rattle.scql_model.specs.Database.{Database}
use Rattle.scql_model.specs.Machine.{Machine}
use Rattle.scql_model.specs.Step.{step}
use Rattle.scql_model.proofs.LastCommits.{last-step}
use Rattle.scql_model.specs.Lines.{Language, LineContent, too_long, nothing, resets, not_hexadecimal, command, command_lines, content_of, content_effect, reply_octets, taken_line, line_effect, line_text, line_step, run_text, state_after}
use Rattle.scql_model.specs.Opens.{Opens, OpensToOneOf}
use Rattle.scql_model.specs.Heard.{IsLawful, committed_in, commits_of, commits_to, after_commits, heard, IsKept}

-- the first commits, and those behind them
after_commits-first : (db : Database) (xs ys : List Database) (k : ℕ) → k ≤ length xs → after_commits db (xs ++ ys) k ≡ after_commits db xs k
after_commits-first db [] ys zero within = refl
after_commits-first db [] ys (suc k) within = absurd (omega arith)
after_commits-first db (x ∷ xs) ys zero within = refl
after_commits-first db (x ∷ xs) ys (suc k) within = after_commits-first x xs ys k (omega arith)

pub after_commits-behind : (db : Database) (xs ys : List Database) (k : ℕ) → after_commits db (xs ++ ys) (length xs + k) ≡ after_commits (after_commits db xs (length xs)) ys k
after_commits-behind db [] ys k =
    let all : 0 + k ≡ k = omega arith in
    ap (after_commits db ys) all
after_commits-behind db (x ∷ xs) ys k =
    let next : suc (length xs) + k ≡ suc (length xs + k) = omega arith in
    ap (after_commits db (x ∷ (xs ++ ys))) next ∙ after_commits-behind x xs ys k

silent-line : {S : Type 0} (L : Language S) (lawful : IsLawful L) (state : S) (line : List ℕ) → length (line_text L state line) ≡ 0 → length (line_effect L state line).commits ≡ 0
unfolding line_text
silent-line L lawful state line none = lawful.silent state (taken_line line) none

last-line : {S : Type 0} (L : Language S) (lawful : IsLawful L) (state : S) (line : List ℕ) → after_commits (committed_in L state) (line_effect L state line).commits (length (line_effect L state line).commits) ≡ committed_in L (line_step L state line)
unfolding line_step
last-line L lawful state line = lawful.last state (taken_line line)

-- the first line and those behind it
commits_to-line : {S : Type 0} (L : Language S) (state : S) (line : List ℕ) (lines : List (List ℕ)) (i : ℕ) → commits_to L state (line ∷ lines) (suc i) ≡ length (line_effect L state line).commits + commits_to L (line_step L state line) lines i
commits_to-line L state line lines i = length-append (line_effect L state line).commits (commits_of L (line_step L state line) (take i lines))

heard-line : {S : Type 0} (L : Language S) (state : S) (line : List ℕ) (lines : List (List ℕ)) (g : ℕ) → heard L state (line ∷ lines) (length (line_text L state line) + g) ≡ suc (heard L (line_step L state line) lines g)
heard-line L state line lines g =
    let size : ℕ = length (line_text L state line) in
    let left : size + g - size ≡ g = omega arith in
    rw (le-leb size (size + g) (omega arith), left) refl

heard-not : {S : Type 0} (L : Language S) (state : S) (line : List ℕ) (lines : List (List ℕ)) (g : ℕ) → suc g ≤ length (line_text L state line) → heard L state (line ∷ lines) g ≡ 0
heard-not L state line lines g less = elim (leb_tells (length (line_text L state line)) g) [
  | inl t ↦ absurd (omega (arith, less, t.1))
  | inr f ↦ rw (f.0) refl
]

-- The texts of the lines that are heard have together at most as many octets as had gone out, and no more lines have.
pub heard-fits : {S : Type 0} (L : Language S) (state : S) (lines : List (List ℕ)) (g : ℕ) → length (run_text L state (take (heard L state lines g) lines)) ≤ g
heard-fits L state [] g = omega arith
heard-fits L state (line ∷ lines) g =
    let text : List ℕ = line_text L state line in
    let i : ℕ = heard L (line_step L state line) lines (g - length text) in
    elim (leb_tells (length text) g) [
      | inl t ↦
          let one : heard L state (line ∷ lines) g ≡ suc i = rw (t.0) refl in
          subst (λ (k : ℕ). length (run_text L state (take k (line ∷ lines))) ≤ g) (sym one)
          (omega (arith, length-append text (run_text L (line_step L state line) (take i lines)), heard-fits L (line_step L state line) lines (g - length text), t.1))
      | inr f ↦ rw (f.0) (omega arith)
    ]

pub heard-greatest : {S : Type 0} (L : Language S) (state : S) (lines : List (List ℕ)) (g i : ℕ) → i ≤ length lines → length (run_text L state (take i lines)) ≤ g → i ≤ heard L state lines g
heard-greatest L state lines g zero within fits = omega arith
heard-greatest L state [] g (suc i) within fits = absurd (omega (arith, within))
heard-greatest L state (line ∷ lines) g (suc i) within fits =
    let text : List ℕ = line_text L state line in
    let others : List ℕ = run_text L (line_step L state line) (take i lines) in
    let size : length text + length others ≤ g = omega (arith, fits, length-append text others) in
    let one : heard L state (line ∷ lines) g ≡ suc (heard L (line_step L state line) lines (g - length text)) = rw (le-leb (length text) g (omega (arith, size))) refl in
    omega (arith, one, heard-greatest L (line_step L state line) lines (g - length text) i (omega (arith, within)) (omega (arith, size)))

-- where nothing has gone out, the lines heard commit nothing
silent : {S : Type 0} (L : Language S) (lawful : IsLawful L) (state : S) (lines : List (List ℕ)) (counted : ℕ) → commits_to L state lines (heard L state (take counted lines) 0) ≡ 0
silent L lawful state [] zero = refl
silent L lawful state [] (suc counted) = refl
silent L lawful state (line ∷ lines) zero = refl
silent L lawful state (line ∷ lines) (suc counted) = elim (leb_tells (length (line_text L state line)) 0) [
  | inl t ↦
      let none : length (line_text L state line) ≡ 0 = omega (arith, t.1) in
      let one : heard L state (line ∷ take counted lines) 0 ≡ suc (heard L (line_step L state line) (take counted lines) 0) =
      ap (λ (g : ℕ). heard L state (line ∷ take counted lines) g) (omega (arith, none)) ∙ heard-line L state line (take counted lines) 0 in
      ap (commits_to L state (line ∷ lines)) one ∙ (commits_to-line L state line lines (heard L (line_step L state line) (take counted lines) 0)
      ∙ omega (arith, silent-line L lawful state line none, silent L lawful (line_step L state line) lines counted))
  | inr f ↦ rw (f.0) refl
]

-- between two lines the image opens to the database after the first, whatever lines come
pub kept-idle : {S : Type 0} (L : Language S) (lawful : IsLawful L) (state : S) (lines : List (List ℕ)) (counted : ℕ) (left : List ℕ) → Opens left (committed_in L state) → IsKept L state lines counted 0 left
kept-idle L lawful state lines counted left opens = record {
  commits = 0;
  least = omega (arith, silent L lawful state lines counted);
  most = omega arith;
  opens = opens;
}

-- one of these databases is that after so many of the commits
opens-after : (db : Database) (commits : List Database) (left : List ℕ) → OpensToOneOf (db ∷ commits) left → (k : ℕ) × (k ≤ length commits) × Opens left (after_commits db commits k)
opens-after db commits left (inl here) = (0, omega arith, here)
opens-after db [] left (inr none) = absurd none
opens-after db (next ∷ commits) left (inr there) =
    let found = opens-after next commits left there in
    (suc found.0, omega (arith, found.1), found.2)

-- In the first line, which wasn't heard, the image opens to the database before it or to one that it commits.
kept-unheard : {S : Type 0} (L : Language S) (state : S) (line : List ℕ) (lines : List (List ℕ)) (counted g : ℕ) (left : List ℕ) → heard L state (take counted (line ∷ lines)) g ≡ 0
    → OpensToOneOf (committed_in L state ∷ (line_effect L state line).commits) left → IsKept L state (line ∷ lines) counted g left
kept-unheard L state line lines counted g left unheard opens =
    let found = opens-after (committed_in L state) ((line_effect L state line).commits) left opens in
    record {
      commits = found.0;
      least = rw unheard (omega arith);
      most = rw unheard (omega (arith, found.1, commits_to-line L state line lines 0));
      opens = subst (Opens left) (sym (after_commits-first (committed_in L state) ((line_effect L state line).commits) (commits_of L (line_step L state line) lines) found.0 found.1)) found.2;
    }

-- where the line fails, it isn't among those that are heard
pub kept-failing : {S : Type 0} (L : Language S) (state : S) (line : List ℕ) (lines : List (List ℕ)) (g : ℕ) (left : List ℕ)
    → OpensToOneOf (committed_in L state ∷ (line_effect L state line).commits) left → IsKept L state (line ∷ lines) 0 g left
kept-failing L state line lines g left opens = kept-unheard L state line lines 0 g left refl opens

-- behind the first line
pub kept-behind : {S : Type 0} (L : Language S) (lawful : IsLawful L) (state : S) (line : List ℕ) (lines : List (List ℕ)) (counted g : ℕ) (left : List ℕ) → IsKept L (line_step L state line) lines counted g left
    → IsKept L state (line ∷ lines) (suc counted) (length (line_text L state line) + g) left
kept-behind L lawful state line lines counted g left kept =
    let own : List Database = (line_effect L state line).commits in
    let others : List Database = commits_of L (line_step L state line) lines in
    let i : ℕ = heard L (line_step L state line) (take counted lines) g in
    let one : heard L state (line ∷ take counted lines) (length (line_text L state line) + g) ≡ suc i = heard-line L state line (take counted lines) g in
    let next : commits_to L state (line ∷ lines) (suc i + 1) ≡ length own + commits_to L (line_step L state line) lines (i + 1) =
    let more : suc i + 1 ≡ suc (i + 1) = omega arith in
    ap (commits_to L state (line ∷ lines)) more ∙ commits_to-line L state line lines (i + 1) in
    record {
      commits = length own + kept.commits;
      least = rw one (omega (arith, commits_to-line L state line lines i, kept.least));
      most = rw one (omega (arith, next, kept.most));
      opens = subst (Opens left)
          (ap (λ (db : Database). after_commits db others kept.commits) (sym (last-line L lawful state line)) ∙ sym (after_commits-behind (committed_in L state) own others kept.commits))
          kept.opens;
    }

-- A line that is answered: the image opens to the database before it or to one that it commits, and to the last of these once an octet of its text has gone out.
pub kept-answered : {S : Type 0} (L : Language S) (lawful : IsLawful L) (state : S) (line : List ℕ) (lines : List (List ℕ)) (counted g : ℕ) (left : List ℕ) → g ≤ length (line_text L state line)
    → OpensToOneOf (committed_in L state ∷ (line_effect L state line).commits) left → (suc zero ≤ g → Opens left (committed_in L (line_step L state line)))
    → IsKept L state (line ∷ lines) (suc counted) g left
kept-answered L lawful state line lines counted g left within opens done = elim (leb_tells (length (line_text L state line)) g) [
  | inl t ↦
      let whole : length (line_text L state line) + 0 ≡ g = omega (arith, t.1, within) in
      let own : List Database = (line_effect L state line).commits in
      let found = opens-after (committed_in L state) own left opens in
      let last : Opens left (committed_in L (line_step L state line)) = elim (leb_tells 1 g) [
        | inl some ↦ done (some.1)
        | inr none ↦
            let all : found.0 ≡ length own = omega (arith, found.1, silent-line L lawful state line (omega (arith, none.1, within, whole))) in
            subst (Opens left) (ap (after_commits (committed_in L state) own) all ∙ last-line L lawful state line) found.2
      ] in
      subst (λ (g : ℕ). IsKept L state (line ∷ lines) (suc counted) g left) whole
      (kept-behind L lawful state line lines counted 0 left (kept-idle L lawful (line_step L state line) lines counted left last))
  | inr f ↦ kept-unheard L state line lines (suc counted) g left (heard-not L state line (take counted lines) g (omega (arith, f.1))) opens
]

-- the same counts
pub kept-same : {S : Type 0} (L : Language S) (state : S) (lines : List (List ℕ)) (counted count g mark : ℕ) (left : List ℕ) → counted ≡ count → g ≡ mark → IsKept L state lines counted g left → IsKept L state lines count mark left
kept-same L state lines counted count g mark left lines_same mark_same kept = subst (λ (n : ℕ). IsKept L state lines n mark left) lines_same (subst (λ (g : ℕ). IsKept L state lines counted g left) mark_same kept)

-- behind lines that were answered
pub kept-after : {S : Type 0} (L : Language S) (lawful : IsLawful L) (state : S) (before lines : List (List ℕ)) (counted g : ℕ) (left : List ℕ) → IsKept L (state_after L state before) lines counted g left
    → IsKept L state (before ++ lines) (length before + counted) (length (run_text L state before) + g) left
kept-after L lawful state [] lines counted g left kept = kept-same L state lines counted (0 + counted) g (0 + g) left (omega arith) (omega arith) kept
kept-after L lawful state (line ∷ before) lines counted g left kept =
    let text : List ℕ = line_text L state line in
    let others : List ℕ = run_text L (line_step L state line) before in
    let size : length text + (length others + g) ≡ length (text ++ others) + g = omega (arith, length-append text others) in
    kept-same L state (line ∷ (before ++ lines)) (suc (length before + counted)) (length (line ∷ before) + counted) (length text + (length others + g)) (length (text ++ others) + g) left (omega arith) size
    (kept-behind L lawful state line (before ++ lines) (length before + counted) (length others + g) left (kept-after L lawful (line_step L state line) before lines counted g left kept))

-- Commands are such a language: a step ends at the last database that it commits,
last-content : (m : Machine) (content : LineContent) → (let does = content_effect m content in after_commits m.committed does.commits (length does.commits) ≡ does.next.committed)
last-content m (command octets) = last-step m octets
last-content m resets = refl
last-content m too_long = refl
last-content m nothing = refl
last-content m not_hexadecimal = refl

-- and what has no text is no command
silent-content : (m : Machine) (content : LineContent) → (let does = content_effect m content in length does.text ≡ 0 → length does.commits ≡ 0)
silent-content m (command octets) none =
    let digits : List ℕ = encode_upper (reply_octets (step m octets).reply) in
    absurd (omega (arith, length-append digits (codes "\n"), none))
silent-content m content none = refl

pub commands-lawful : IsLawful command_lines
commands-lawful = record {
  last = λ m line. last-content m (content_of line);
  silent = λ m line. silent-content m (content_of line);
}

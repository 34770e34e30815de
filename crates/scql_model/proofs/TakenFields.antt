-- The line of an operation in the table is of its kind, and takes what is written behind P2.
use Rattle.std.proofs.Common.{◌≡◌, ◌≤◌, ℕ, zero, suc, true, List, [], ◌∷◌, length, Option, Some, None, is_some, refl, arith}
use Rattle.std.proofs.lemmas.Bool.{false≢true}
use Rattle.scql_base.specs.declared.operation.Line.{Line}
use Rattle.scql_base.specs.declared.operation.Operation.{Operation}
use Rattle.scql_base.specs.declared.operation.Operation.TheVariants.{Fetch, FetchNext, Insert, Update, Verify, OpenChannel, CloseChannel, GetResponse}
use Rattle.scql_base.specs.declared.operation.OperationKind.{OperationKind}
use Rattle.scql_base.specs.declared.operation.OperationKind.TheVariants as kind
use Rattle.scql_model.specs.Operations.{operations, WantsLe, comes_in_parts, kind_of}
use Rattle.scql_model.specs.Parameters.{are_changes, is_verified_secret}
use Rattle.scql_model.specs.WellFormed.{HasForm}
use Rattle.scql_model.specs.Form.{Tail, takes_case}
use Rattle.scql_model.specs.Spelling.{field_of, line_for}
use Rattle.scql_model.proofs.TailsAgain.{tail}

-- a line of this kind that takes this tail
abbrev pub Takes : Option Line → OperationKind → Tail → Type 0
Takes None asked t = ⊥
Takes (Some l) asked t = (l.kind ≡ asked) × (takes_case l.takes t ≡ true)

pub record Lined (asked : OperationKind) (t : Tail) : Type 0 where
  pub line : Line
  pub found : line_for operations asked ≡ Some line
  pub kind : line.kind ≡ asked
  pub takes : takes_case line.takes t ≡ true

lined_by : (asked : OperationKind) (t : Tail) (o : Option Line) → line_for operations asked ≡ o → Takes o asked t → Lined asked t
lined_by asked t None found is = absurd is
lined_by asked t (Some l) found is = record { line = l; found = found; kind = is.0; takes = is.1 }

-- a secret that is verified has octets, and changes have some
verified-taken : (secret : List ℕ) (le : Option ℕ) → is_verified_secret secret ≡ true → Takes (line_for operations kind.Verify) kind.Verify (tail secret le)
verified-taken [] le form = absurd (false≢true form)
verified-taken (octet ∷ octets) le form = (refl, refl)

changes-taken : (changes : List (List ℕ × List ℕ)) (le : Option ℕ) → are_changes changes ≡ true → Takes (line_for operations kind.Update) kind.Update (tail (field_of (Update changes)) le)
changes-taken [] le form = absurd (false≢true form)
changes-taken (change ∷ changes) le form = (refl, refl)

opened-taken : (number : ℕ) (le : Option ℕ) → number ≤ 3 → (WantsLe (kind.OpenChannel number) → is_some le ≡ true)
    → Takes (line_for operations (kind.OpenChannel number)) (kind.OpenChannel number) (tail [] le)
opened-taken zero le form wanted = (refl, wanted (2, omega arith, refl))
opened-taken (suc zero) le form wanted = (refl, refl)
opened-taken (suc (suc zero)) le form wanted = (refl, refl)
opened-taken (suc (suc (suc zero))) le form wanted = (refl, refl)
opened-taken (suc (suc (suc (suc number)))) le form wanted = absurd (omega (arith, form))

closed-taken : (number : ℕ) (le : Option ℕ) → number ≤ 3 → Takes (line_for operations (kind.CloseChannel number)) (kind.CloseChannel number) (tail [] le)
closed-taken zero le form = (refl, refl)
closed-taken (suc zero) le form = (refl, refl)
closed-taken (suc (suc zero)) le form = (refl, refl)
closed-taken (suc (suc (suc zero))) le form = (refl, refl)
closed-taken (suc (suc (suc (suc number)))) le form = absurd (omega (arith, form))

field-taken : (operation : Operation) (le : Option ℕ) → HasForm operation → (WantsLe (kind_of operation) → is_some le ≡ true)
    → Takes (line_for operations (kind_of operation)) (kind_of operation) (tail (field_of operation) le)
field-taken Fetch le form wanted = (refl, wanted (0, omega arith, refl))
field-taken FetchNext le form wanted = (refl, wanted (1, omega arith, refl))
field-taken (Update changes) le form wanted = changes-taken changes le form
field-taken (Verify secret) le form wanted = verified-taken secret le form
field-taken (OpenChannel number) le form wanted = opened-taken number le form wanted
field-taken (CloseChannel number) le form wanted = closed-taken number le form
field-taken GetResponse le form wanted = (refl, wanted (3, omega arith, refl))
field-taken operation le form wanted = (refl, refl)

pub Lined-field : (operation : Operation) (le : Option ℕ) → HasForm operation → (WantsLe (kind_of operation) → is_some le ≡ true) → Lined (kind_of operation) (tail (field_of operation) le)
Lined-field operation le form wanted =
    lined_by (kind_of operation) (tail (field_of operation) le) (line_for operations (kind_of operation)) refl (field-taken operation le form wanted)

-- what comes in parts takes any octets
piece-taken : (operation : Operation) (octet : ℕ) (octets : List ℕ) (le : Option ℕ) → comes_in_parts (kind_of operation) ≡ true
    → Takes (line_for operations (kind_of operation)) (kind_of operation) (tail (octet ∷ octets) le)
piece-taken (Insert table values) octet octets le comes = (refl, refl)
piece-taken (Update changes) octet octets le comes = (refl, refl)
piece-taken operation octet octets le comes = absurd (false≢true comes)

pub Lined-piece : (operation : Operation) (octets : List ℕ) (le : Option ℕ) → comes_in_parts (kind_of operation) ≡ true → 1 ≤ length octets → Lined (kind_of operation) (tail octets le)
Lined-piece operation [] le comes some = absurd (omega (arith, some))
Lined-piece operation (octet ∷ octets) le comes some =
    lined_by (kind_of operation) (tail (octet ∷ octets) le) (line_for operations (kind_of operation)) refl (piece-taken operation octet octets le comes)

-- Kinds of records: by which first octets a record is of a kind, how it is spelled and read, and which number orders it.
use Rattle.std.specs.Prelude.{◌≡◌, ℕ, ◌≤◌, Bool, true, false, List, [], ◌∷◌, length, Option, Some, None}
use Rattle.eeprom.specs.StoreOf.{longest_record}
use Rattle.scql_model.specs.Fields.{Field, whole}
use Rattle.scql_model.proofs.FieldLaws.{AreOctets}

pub record Kind (X : Type 0) : Type 0 where
  -- which first octets a record of the kind has
  pub marks : ℕ → Bool
  -- its spelling, its limits and its reader
  pub form : Field X
  -- the number by which the records of the kind are in order
  pub key : X → ℕ

-- the record of a kind that octets are, with nothing left over
abbrev pub read_as : {X : Type 0} → Kind X → List ℕ → Option X
read_as {X} kind octets = whole kind.form.read octets

-- whether octets begin with an octet that passes a test
abbrev pub starts : (ℕ → Bool) → List ℕ → Bool
starts marks [] = false
starts marks (octet ∷ octets) = marks octet

-- the spelling of a record is one that a store can hold
abbrev pub FitsChain : {X : Type 0} → Kind X → X → Type 0
FitsChain {X} kind x = length (kind.form.spell x) ≤ longest_record

-- What a kind owes.
pub record IsKind {X : Type 0} (kind : Kind X) : Type 0 where
  -- a spelling begins with a mark of the kind
  pub begins : (x : X) → starts kind.marks (kind.form.spell x) ≡ true
  -- what is within the limits is read of its spelling
  pub again : (x : X) → kind.form.fits x ≡ true → read_as kind (kind.form.spell x) ≡ Some x
  -- what is read of octets is within the limits, and they are its spelling
  pub took : (octets : List ℕ) (x : X) → AreOctets octets → read_as kind octets ≡ Some x → (octets ≡ kind.form.spell x) × (kind.form.fits x ≡ true)
  -- nothing is read of octets that begin otherwise
  pub others : (octets : List ℕ) → starts kind.marks octets ≡ false → read_as kind octets ≡ None

-- two kinds have no first octet in common
abbrev pub HaveOtherMarks : {X Y : Type 0} → Kind X → Kind Y → Type 0
HaveOtherMarks {X} {Y} kind other = (octet : ℕ) → kind.marks octet ≡ true → other.marks octet ≡ false

-- By what a record is searched: by a tag, which is a number of 16 bits made of its name, or of a grant's object and grantee; or by its stamp.
use Rattle.std.specs.Prelude.{◌≡◌, ℕ, ◌+◌, ◌*◌, ◌%◌, ◌==◌, ◌||◌, Bool, false, if◌then◌else◌, List, [], ◌∷◌, take, drop, length, replicate, Option, Some, None, option_and_then, slice_index, slice_index_or, slice_set}
use Rattle.std.specs.List.{fold}
use Rattle.std.specs.Option.{option_map_or}
use Rattle.eeprom.specs.StoreOf.{Slots, number_at}
use Rattle.record_store.specs.Touched.{SameOutside}
use Rattle.record_store.specs.declared.tags.Tag.{Tag}
use Rattle.record_store.specs.declared.tags.Tag.TheVariants.{Name, Stamp}

-- a tag, and one more octet
abbrev pub mixed : ℕ → ℕ → ℕ
mixed tag octet = (tag * 31 + octet) % 65536

-- the tag of a name
abbrev pub name_tag : List ℕ → ℕ
name_tag name = fold mixed 0 name

-- the tag of a grant on the object of a stamp to the user of a stamp
abbrev pub pair_tag : ℕ → ℕ → ℕ
pair_tag object grantee = (object * 509 + grantee) % 65536

-- the first octets of the records that are searched by a tag
abbrev pub user_octet : ℕ
user_octet = 1

abbrev pub table_octet : ℕ
table_octet = 2

abbrev pub view_octet : ℕ
view_octet = 3

abbrev pub dictionary_octet : ℕ
dictionary_octet = 4

abbrev pub grant_octet : ℕ
grant_octet = 5

-- the text that octets begin with: a length octet and that many octets
abbrev pub text_of : List ℕ → List ℕ
text_of [] = []
text_of (size ∷ octets) = take size octets

-- the name in a record with this first octet: that of a user or an object, and none in others
abbrev pub name_of_kind : ℕ → List ℕ → List ℕ
name_of_kind first octets =
    if first == user_octet then text_of (drop 11 octets)
    else if first == table_octet || first == dictionary_octet then text_of (drop 9 octets)
    else if first == view_octet then text_of (drop 13 octets)
    else []

abbrev pub name_in : List ℕ → List ℕ
name_in octets = name_of_kind (slice_index octets 0) octets

-- the tag of a record: a grant's is that of the stamps of its object and of its grantee, of which the last two octets are all that count, and others' that of their name
abbrev pub tag_of : List ℕ → ℕ
tag_of octets = if slice_index octets 0 == grant_octet then pair_tag (number_at octets 7) (number_at octets 11) else name_tag (name_in octets)

-- the stamp of a record: the number in the four octets behind the first
abbrev pub stamp_of : List ℕ → ℕ
stamp_of octets = 65536 * number_at octets 1 + number_at octets 3

-- a record has a tag, or a stamp
abbrev pub is_tagged : Tag → List ℕ → Bool
is_tagged (Name tag) octets = tag_of octets == tag
is_tagged (Stamp stamp) octets = stamp_of octets == stamp

-- a slot has a record of a tag
abbrev pub has_tag : Tag → Option (List ℕ) → Bool
has_tag tag entry = option_map_or (is_tagged tag) entry false

-- for each slot the tag of its record, and the record's stamp
pub record SideTags : Type 0 where
  pub names : List ℕ
  pub stamps : List ℕ

-- of each slot that has a record what a function makes of the record
abbrev pub AreMade : (List ℕ → ℕ) → List ℕ → Option Slots → Type 0
AreMade tag tags slots = (slot : ℕ) (octets : List ℕ) → option_and_then (λ slots. slice_index_or slots slot None) slots ≡ Some octets → slice_index tags slot ≡ tag octets

-- of each slot that has a record the tags of the record
pub record AreTags (tags : SideTags) (slots : Option Slots) : Type 0 where
  pub names : AreMade tag_of tags.names slots
  pub stamps : AreMade stamp_of tags.stamps slots

-- there are tags of so many slots
pub record HasTags (cells : ℕ) (tags : SideTags) : Type 0 where
  pub names : length tags.names ≡ cells
  pub stamps : length tags.stamps ≡ cells

-- in all other slots two have the same tags
pub record SameTagsOutside (slots : List ℕ) (left was : SideTags) : Type 0 where
  pub names : SameOutside slots left.names was.names
  pub stamps : SameOutside slots left.stamps was.stamps

-- two are tags of as many slots, and differ in these slots alone
pub record DifferOnlyIn (slots : List ℕ) (left was : SideTags) : Type 0 where
  pub even : length was.stamps ≡ length was.names
  pub names : length left.names ≡ length was.names
  pub stamps : length left.stamps ≡ length was.names
  pub others : SameTagsOutside slots left was

-- a slot's tags are those of a record
abbrev pub with_tags : SideTags → ℕ → List ℕ → SideTags
with_tags tags slot octets = record { names = slice_set tags.names slot (tag_of octets); stamps = slice_set tags.stamps slot (stamp_of octets) }

-- none was made yet of so many slots
abbrev pub no_tags : ℕ → SideTags
no_tags cells = record { names = replicate cells 0; stamps = replicate cells 0 }

-- the tags as they were committed and as they are in a transaction
pub record Tags : Type 0 where
  pub committed : SideTags
  pub working : SideTags

-- the same on both sides
abbrev pub both_sides : SideTags → Tags
both_sides tags = record { committed = tags; working = tags }

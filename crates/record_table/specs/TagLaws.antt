-- The octets of a record that is read have its name, or its pair, at a place that is known from their first octet on.
use Rattle.std.proofs.Common.{◌≡◌, ◌⊎◌, ℕ, ◌+◌, ◌*◌, ◌%◌, nat_lt, ◌==◌, ◌&&◌, Bool, true, false, List, [], ◌∷◌, Option, Some, None, option_map, length, drop, take, if◌then◌else◌, refl, sym, ap, ◌∙◌, subst, inl, inr, arith, eq-eqb}
use Rattle.std.specs.Int.{w32, from_be_bytes}
use Rattle.std.proofs.lemmas.Bool.{and_parts, eqb-true}
use Rattle.std.proofs.lemmas.List.{drop-drop, get_or-drop}
use Rattle.std.proofs.lemmas.Option.{none-some, same_Some, option_and_then_some}
use Rattle.std.proofs.lemmas.Slice.Eq.{bytes_eq-Decides}
use Rattle.std.specs.Str.{bytes_eq}
use Rattle.scql_base.specs.declared.records.TheConstants.User.{MARK as user_mark}
use Rattle.scql_base.specs.declared.records.TheConstants.Object.{TABLE_MARK, VIEW_MARK, DICTIONARY_MARK}
use Rattle.scql_base.specs.declared.records.TheConstants.Grant.{MARK as grant_mark}
use Rattle.scql_base.specs.declared.records.Object.{Object}
use Rattle.scql_base.specs.declared.records.User.{User}
use Rattle.scql_base.specs.declared.records.Grant.{Grant}
use Rattle.scql_base.specs.declared.records.RowRecord.{RowRecord}
use Rattle.scql_base.specs.declared.records.TheConstants.RowRecord.{MARK as row_mark}
use Rattle.scql_base.specs.Name.{is_name}
use Rattle.scql_model.specs.Fields.{then_at, number_from, octet_at, letter_at, with_rest, text_at, made_at, marked_at, whole}
use Rattle.scql_model.specs.Records.{user_record, table_record, view_record, dictionary_record, object_record, grant_record, row_record, to_user, to_table, to_view, to_dictionary, to_grant, to_row, starts_with, is_tries, is_privileges, profile_of}
use Rattle.scql_model.proofs.FieldLaws.{mapped_some, chosen_some, not_chosen_some}
use Rattle.eeprom.specs.StoreOf.{number_at}
use Rattle.record_store.specs.Tags.{text_of, name_tag, pair_tag, stamp_of, tag_of}
use Rattle.catalog_codec.specs.Catalog.{user_kind, object_kind, grant_kind, row_kind}
use Rattle.catalog_codec.specs.Kinds.{read_as}
use Rattle.record_store.specs.declared.tags.Tag.TheVariants.{Name}
use Rattle.record_table.specs.Tagged.{AreTagged}

-- a reader leaves what is behind so many octets
abbrev Leaves : {A : Type 0} → (List ℕ → Option (A × List ℕ)) → ℕ → Type 0
Leaves {A} read n = (octets : List ℕ) (x : A) (rest : List ℕ) → read octets ≡ Some (x, rest) → drop n octets ≡ rest

-- what is behind so many octets is so of the value that is read
abbrev IsBehind : {A : Type 0} → (List ℕ → Option (A × List ℕ)) → ℕ → (A → List ℕ → Type 0) → Type 0
IsBehind {A} read n P = (octets : List ℕ) (x : A) (rest : List ℕ) → read octets ≡ Some (x, rest) → P x (drop n octets)

leaves-number : Leaves number_from 4
leaves-number [] x rest is = absurd (none-some (x, rest) is)
leaves-number (a ∷ []) x rest is = absurd (none-some (x, rest) is)
leaves-number (a ∷ b ∷ []) x rest is = absurd (none-some (x, rest) is)
leaves-number (a ∷ b ∷ c ∷ []) x rest is = absurd (none-some (x, rest) is)
leaves-number (a ∷ b ∷ c ∷ d ∷ octets) x rest is = ap (λ (r : ℕ × List ℕ). r.1) (same_Some (from_be_bytes w32 (a ∷ b ∷ c ∷ d ∷ []), octets) (x, rest) is)

leaves-octet : (test : ℕ → Bool) → Leaves (octet_at test) 1
leaves-octet test [] x rest is = absurd (none-some (x, rest) is)
leaves-octet test (octet ∷ octets) x rest is = ap (λ (r : ℕ × List ℕ). r.1) (same_Some (octet, octets) (x, rest) (chosen_some (test octet) (Some (octet, octets)) (x, rest) is).1)

leaves-letter : {A : Type 0} (value : ℕ → Option A) → Leaves (letter_at value) 1
leaves-letter value [] x rest is = absurd (none-some (x, rest) is)
leaves-letter {A} value (octet ∷ octets) x rest is = mapped_some (with_rest octets) (value octet) (x, rest) is (λ (y : A) at same. ap (λ (r : A × List ℕ). r.1) same)

-- a text is what the octets begin with
text-behind : (test : List ℕ → Bool) → IsBehind (text_at test) 0 (λ name back. text_of back ≡ name)
text-behind test [] x rest is = absurd (none-some (x, rest) is)
text-behind test (len ∷ octets) x rest is =
    let enough = not_chosen_some (nat_lt (length octets) len) (if test (take len octets) then Some (take len octets, drop len octets) else None) (x, rest) is in
    let passes = chosen_some (test (take len octets)) (Some (take len octets, drop len octets)) (x, rest) enough.1 in
    ap (λ (r : List ℕ × List ℕ). r.0) (same_Some (take len octets, drop len octets) (x, rest) passes.1)

-- of one reader and then another
module _ {A B : Type 0} (f : List ℕ → Option (A × List ℕ)) (g : List ℕ → Option (B × List ℕ)) where
  parts : {P : Type 0} (octets : List ℕ) (r : (A × B) × List ℕ) → then_at f g octets ≡ Some r
      → ((a : A × List ℕ) (b : B × List ℕ) → f octets ≡ Some a → g a.1 ≡ Some b → ((a.0, b.0), b.1) ≡ r → P) → P
  parts octets r is then' =
      option_and_then_some (λ (a : A × List ℕ). option_map (λ (b : B × List ℕ). ((a.0, b.0), b.1)) (g a.1)) (f octets) r is (λ (a : A × List ℕ) at is'.
      mapped_some (λ (b : B × List ℕ). ((a.0, b.0), b.1)) (g a.1) r is' (λ (b : B × List ℕ) at' same. then' a b at at' same))

  first-behind : (n : ℕ) (P : A → List ℕ → Type 0) → IsBehind f n P → IsBehind (then_at f g) n (λ x back. P x.0 back)
  first-behind n P first octets x rest is =
      parts octets (x, rest) is (λ a b at at' same. subst (λ (r : (A × B) × List ℕ). P r.0.0 (drop n octets)) same (first octets a.0 a.1 at))

  second-behind : (m n : ℕ) (P : B → List ℕ → Type 0) → Leaves f m → IsBehind g n P → IsBehind (then_at f g) (m + n) (λ x back. P x.1 back)
  second-behind m n P leaves second octets x rest is =
      parts octets (x, rest) is (λ a b at at' same.
      let behind : drop n a.1 ≡ drop (m + n) octets = ap (drop n) (sym (leaves octets a.0 a.1 at)) ∙ drop-drop n m octets in
      subst (λ (r : (A × B) × List ℕ). P r.0.1 (drop (m + n) octets)) same (subst (P b.0) behind (second a.1 b.0 b.1 at')))

-- of what is made of a value
made-behind : {A B : Type 0} (to : A → B) (f : List ℕ → Option (A × List ℕ)) (n : ℕ) (P : B → List ℕ → Type 0) → IsBehind f n (λ x back. P (to x) back) → IsBehind (made_at to f) n P
made-behind {A} {B} to f n P behind octets x rest is =
    mapped_some (λ (a : A × List ℕ). (to a.0, a.1)) (f octets) (x, rest) is (λ (a : A × List ℕ) at same.
    subst (λ (r : B × List ℕ). P r.0 (drop n octets)) same (behind octets a.0 a.1 at))

-- of a value behind a mark, where the mark says the place
marked-behind : {A : Type 0} (mark : ℕ) (f : List ℕ → Option (A × List ℕ)) (n : ℕ) (P Q : A → List ℕ → Type 0) → ((x : A) (octets : List ℕ) → P x (drop n octets) → Q x (mark ∷ octets))
    → IsBehind f n P → IsBehind (marked_at mark f) 0 Q
marked-behind mark f n P Q says behind [] x rest is = absurd (none-some (x, rest) is)
marked-behind mark f n P Q says behind (octet ∷ octets) x rest is =
    let own = chosen_some (octet == mark) (f octets) (x, rest) is in
    subst (λ first. Q x (first ∷ octets)) (sym (eqb-true octet mark own.0)) (says x octets (behind octets x rest own.1))

-- nothing is left over of a whole record
of_whole : {A P : Type 0} (read : List ℕ → Option (A × List ℕ)) (octets : List ℕ) (x : A) → whole read octets ≡ Some x → ((rest : List ℕ) → read octets ≡ Some (x, rest) → P) → P
of_whole {A} read octets x is then' =
    option_and_then_some (λ (a : A × List ℕ). if length a.1 == 0 then Some a.0 else None) (read octets) x is (λ (a : A × List ℕ) at is'.
    let own = chosen_some (length a.1 == 0) (Some a.0) x is' in
    then' a.1 (at ∙ ap (λ (value : A). Some (value, a.1)) (same_Some a.0 x own.1)))

-- A user's name is behind its stamp, its owner, its profile and its tries.
user-behind : IsBehind user_record.read 0 (λ u octets. tag_of octets ≡ name_tag u.name)
user-behind =
    marked-behind user_mark _ 10 (λ u back. text_of back ≡ u.name) (λ u octets. tag_of octets ≡ name_tag u.name) (λ u octets is. ap name_tag is)
    (made-behind to_user _ 10 (λ u back. text_of back ≡ u.name)
    (second-behind _ _ 4 6 (λ x back. text_of back ≡ x.1.1.1.0) leaves-number
    (second-behind _ _ 4 2 (λ x back. text_of back ≡ x.1.1.0) leaves-number
    (second-behind _ _ 1 1 (λ x back. text_of back ≡ x.1.0) (leaves-letter profile_of)
    (second-behind _ _ 1 0 (λ x back. text_of back ≡ x.0) (leaves-octet is_tries)
    (first-behind _ _ 0 (λ x back. text_of back ≡ x) (text-behind is_name)))))))

pub tagged-user : (octets : List ℕ) (u : User) → read_as user_kind octets ≡ Some u → tag_of octets ≡ name_tag u.name
tagged-user octets u read = of_whole user_record.read octets u read (λ rest taken. user-behind octets u rest taken)

pub named-users : (name : List ℕ) → AreTagged user_kind (λ u. bytes_eq name u.name) (Some (Name (name_tag name)))
named-users name octets u read is = eq-eqb (tag_of octets) (name_tag name) (tagged-user octets u read ∙ ap name_tag (sym ((bytes_eq-Decides name u.name).0 is)))

-- A table's and a dictionary's name is behind its stamp and its owner, and a view's behind its base too.
object-marked : {A : Type 0} (mark : ℕ) (to : A → Object) (f : List ℕ → Option (A × List ℕ)) (n : ℕ)
    → ((x : A) (octets : List ℕ) → text_of (drop n octets) ≡ (to x).name → tag_of (mark ∷ octets) ≡ name_tag (to x).name)
    → IsBehind f n (λ x back. text_of back ≡ (to x).name) → IsBehind (made_at to (marked_at mark f)) 0 (λ o octets. tag_of octets ≡ name_tag o.name)
object-marked mark to f n says behind =
    made-behind to (marked_at mark f) 0 (λ o octets. tag_of octets ≡ name_tag o.name)
    (marked-behind mark f n (λ x back. text_of back ≡ (to x).name) (λ x octets. tag_of octets ≡ name_tag (to x).name) says behind)

table-behind : IsBehind (made_at to_table table_record.read) 0 (λ o octets. tag_of octets ≡ name_tag o.name)
table-behind =
    object-marked TABLE_MARK to_table _ 8 (λ x octets is. ap name_tag is)
    (second-behind _ _ 4 4 (λ x back. text_of back ≡ x.1.0) leaves-number
    (second-behind _ _ 4 0 (λ x back. text_of back ≡ x.0) leaves-number
    (first-behind _ _ 0 (λ x back. text_of back ≡ x) (text-behind is_name))))

dictionary-behind : IsBehind (made_at to_dictionary dictionary_record.read) 0 (λ o octets. tag_of octets ≡ name_tag o.name)
dictionary-behind =
    object-marked DICTIONARY_MARK to_dictionary _ 8 (λ x octets is. ap name_tag is)
    (second-behind _ _ 4 4 (λ x back. text_of back ≡ x.1.0) leaves-number
    (second-behind _ _ 4 0 (λ x back. text_of back ≡ x.0) leaves-number
    (first-behind _ _ 0 (λ x back. text_of back ≡ x) (text-behind is_name))))

view-behind : IsBehind (made_at to_view view_record.read) 0 (λ o octets. tag_of octets ≡ name_tag o.name)
view-behind =
    object-marked VIEW_MARK to_view _ 12 (λ x octets is. ap name_tag is)
    (second-behind _ _ 4 8 (λ x back. text_of back ≡ x.1.1.0) leaves-number
    (second-behind _ _ 4 4 (λ x back. text_of back ≡ x.1.0) leaves-number
    (second-behind _ _ 4 0 (λ x back. text_of back ≡ x.0) leaves-number
    (first-behind _ _ 0 (λ x back. text_of back ≡ x) (text-behind is_name)))))

-- one of two readers
of_either : {A : Type 0} (b : Bool) (o p : Option A) (x : A) → (if b then o else p) ≡ Some x → (o ≡ Some x) ⊎ (p ≡ Some x)
of_either true o p x is = inl is
of_either false o p x is = inr is

object-behind : IsBehind object_record.read 0 (λ o octets. tag_of octets ≡ name_tag o.name)
object-behind octets o rest is =
    elim (of_either (starts_with TABLE_MARK octets) _ _ (o, rest) is) [
      | inl table ↦ table-behind octets o rest table
      | inr other ↦ elim (of_either (starts_with VIEW_MARK octets) _ _ (o, rest) other) [
        | inl view ↦ view-behind octets o rest view
        | inr dictionary ↦ dictionary-behind octets o rest dictionary
      ]
    ]

pub tagged-object : (octets : List ℕ) (o : Object) → read_as object_kind octets ≡ Some o → tag_of octets ≡ name_tag o.name
tagged-object octets o read = of_whole object_record.read octets o read (λ rest taken. object-behind octets o rest taken)

pub named-objects : (name : List ℕ) → AreTagged object_kind (λ o. bytes_eq name o.name) (Some (Name (name_tag name)))
named-objects name octets o read is = eq-eqb (tag_of octets) (name_tag name) (tagged-object octets o read ∙ ap name_tag (sym ((bytes_eq-Decides name o.name).0 is)))

-- A number is that of its four octets.
abbrev IsFour : ℕ → ℕ → ℕ → Type 0
IsFour n high low = n ≡ 65536 * high + low

four-behind : IsBehind number_from 0 (λ n back. IsFour n (number_at back 0) (number_at back 2))
four-behind [] x rest is = absurd (none-some (x, rest) is)
four-behind (a ∷ []) x rest is = absurd (none-some (x, rest) is)
four-behind (a ∷ b ∷ []) x rest is = absurd (none-some (x, rest) is)
four-behind (a ∷ b ∷ c ∷ []) x rest is = absurd (none-some (x, rest) is)
four-behind (a ∷ b ∷ c ∷ d ∷ octets) x rest is =
    let four : from_be_bytes w32 (a ∷ b ∷ c ∷ d ∷ []) ≡ x = ap (λ (r : ℕ × List ℕ). r.0) (same_Some (from_be_bytes w32 (a ∷ b ∷ c ∷ d ∷ []), octets) (x, rest) is) in
    omega (arith, four)

-- The last two of them say what it leaves over.
abbrev EndsAs : ℕ → ℕ → Type 0
EndsAs n low = n % 65536 ≡ low % 65536

number-behind : IsBehind number_from 0 (λ n back. EndsAs n (number_at back 2))
number-behind octets x rest is = let four = four-behind octets x rest is in omega (arith, four)

number_at-drop : (n place : ℕ) (octets : List ℕ) → number_at (drop n octets) place ≡ number_at octets (n + place)
number_at-drop n place octets =
    let next : n + (place + 1) ≡ n + place + 1 = omega arith in
    rw (get_or-drop n octets place 0, get_or-drop n octets (place + 1) 0, next) refl

same-pair : (object grantee o g : ℕ) → EndsAs object o → EndsAs grantee g → pair_tag o g ≡ pair_tag object grantee
same-pair object grantee o g first second = omega (arith, first, second)

-- A grant's object is behind its stamp, and its grantee behind that.
abbrev grant_fields : List ℕ → Option ((ℕ × (ℕ × (ℕ × ℕ))) × List ℕ)
grant_fields octets = then_at number_from (then_at number_from (then_at number_from (octet_at is_privileges))) octets

object-at : IsBehind grant_fields 4 (λ x back. EndsAs x.1.0 (number_at back 2))
object-at =
    second-behind _ _ 4 0 (λ x back. EndsAs x.0 (number_at back 2)) leaves-number
    (first-behind _ _ 0 (λ n back. EndsAs n (number_at back 2)) number-behind)

grantee-at : IsBehind grant_fields 8 (λ x back. EndsAs x.1.1.0 (number_at back 2))
grantee-at =
    second-behind _ _ 4 4 (λ x back. EndsAs x.1.0 (number_at back 2)) leaves-number
    (second-behind _ _ 4 0 (λ x back. EndsAs x.0 (number_at back 2)) leaves-number
    (first-behind _ _ 0 (λ n back. EndsAs n (number_at back 2)) number-behind))

grant-behind : IsBehind grant_record.read 0 (λ g octets. tag_of octets ≡ pair_tag g.object g.grantee)
grant-behind =
    marked-behind grant_mark _ 0 (λ g back. pair_tag (number_at back 6) (number_at back 10) ≡ pair_tag g.object g.grantee) (λ g octets. tag_of octets ≡ pair_tag g.object g.grantee) (λ g octets is. is)
    (made-behind to_grant grant_fields 0 (λ g back. pair_tag (number_at back 6) (number_at back 10) ≡ pair_tag g.object g.grantee)
    (λ octets x rest is.
    let object : EndsAs x.1.0 (number_at octets 6) = object-at octets x rest is ∙ ap (λ n. n % 65536) (number_at-drop 4 2 octets) in
    let grantee : EndsAs x.1.1.0 (number_at octets 10) = grantee-at octets x rest is ∙ ap (λ n. n % 65536) (number_at-drop 8 2 octets) in
    same-pair x.1.0 x.1.1.0 (number_at octets 6) (number_at octets 10) object grantee))

pub tagged-grant : (octets : List ℕ) (g : Grant) → read_as grant_kind octets ≡ Some g → tag_of octets ≡ pair_tag g.object g.grantee
tagged-grant octets g read = of_whole grant_record.read octets g read (λ rest taken. grant-behind octets g rest taken)

pub paired-grants : (object grantee : ℕ) → AreTagged grant_kind (λ g. g.object == object && g.grantee == grantee) (Some (Name (pair_tag object grantee)))
paired-grants object grantee octets g read is =
    let own = and_parts (g.object == object) (g.grantee == grantee) is in
    eq-eqb (tag_of octets) (pair_tag object grantee) (tagged-grant octets g read ∙ rw (eqb-true g.object object own.0, eqb-true g.grantee grantee own.1) refl)

-- A record's stamp is behind its first octet.
abbrev IsStamped : {A : Type 0} → (List ℕ → Option (A × List ℕ)) → (A → ℕ) → Type 0
IsStamped {A} read key = IsBehind read 0 (λ x octets. key x ≡ stamp_of octets)

stamp-first : {A : Type 0} (g : List ℕ → Option (A × List ℕ)) → IsBehind (then_at number_from g) 0 (λ x back. IsFour x.0 (number_at back 0) (number_at back 2))
stamp-first g = first-behind number_from g 0 (λ n back. IsFour n (number_at back 0) (number_at back 2)) four-behind

user-stamp : IsStamped user_record.read (λ u. u.stamp)
user-stamp =
    marked-behind user_mark _ 0 (λ u back. IsFour u.stamp (number_at back 0) (number_at back 2)) (λ u octets. u.stamp ≡ stamp_of octets) (λ u octets is. is)
    (made-behind to_user _ 0 (λ u back. IsFour u.stamp (number_at back 0) (number_at back 2)) (stamp-first _))

grant-stamp : IsStamped grant_record.read (λ g. g.stamp)
grant-stamp =
    marked-behind grant_mark _ 0 (λ g back. IsFour g.stamp (number_at back 0) (number_at back 2)) (λ g octets. g.stamp ≡ stamp_of octets) (λ g octets is. is)
    (made-behind to_grant _ 0 (λ g back. IsFour g.stamp (number_at back 0) (number_at back 2)) (stamp-first _))

row-stamp : IsStamped row_record.read (λ r. r.stamp)
row-stamp =
    marked-behind row_mark _ 0 (λ r back. IsFour r.stamp (number_at back 0) (number_at back 2)) (λ r octets. r.stamp ≡ stamp_of octets) (λ r octets is. is)
    (made-behind to_row _ 0 (λ r back. IsFour r.stamp (number_at back 0) (number_at back 2)) (stamp-first _))

table-stamp : IsStamped (made_at to_table table_record.read) (λ o. o.stamp)
table-stamp =
    made-behind to_table _ 0 (λ o octets. o.stamp ≡ stamp_of octets)
    (marked-behind TABLE_MARK _ 0 (λ x back. IsFour x.0 (number_at back 0) (number_at back 2)) (λ x octets. x.0 ≡ stamp_of octets) (λ x octets is. is) (stamp-first _))

view-stamp : IsStamped (made_at to_view view_record.read) (λ o. o.stamp)
view-stamp =
    made-behind to_view _ 0 (λ o octets. o.stamp ≡ stamp_of octets)
    (marked-behind VIEW_MARK _ 0 (λ x back. IsFour x.0 (number_at back 0) (number_at back 2)) (λ x octets. x.0 ≡ stamp_of octets) (λ x octets is. is) (stamp-first _))

dictionary-stamp : IsStamped (made_at to_dictionary dictionary_record.read) (λ o. o.stamp)
dictionary-stamp =
    made-behind to_dictionary _ 0 (λ o octets. o.stamp ≡ stamp_of octets)
    (marked-behind DICTIONARY_MARK _ 0 (λ x back. IsFour x.0 (number_at back 0) (number_at back 2)) (λ x octets. x.0 ≡ stamp_of octets) (λ x octets is. is) (stamp-first _))

object-stamp : IsStamped object_record.read (λ o. o.stamp)
object-stamp octets o rest is =
    elim (of_either (starts_with TABLE_MARK octets) _ _ (o, rest) is) [
      | inl table ↦ table-stamp octets o rest table
      | inr other ↦ elim (of_either (starts_with VIEW_MARK octets) _ _ (o, rest) other) [
        | inl view ↦ view-stamp octets o rest view
        | inr dictionary ↦ dictionary-stamp octets o rest dictionary
      ]
    ]

-- so a record that is read has its stamp there
pub stamped-user : (octets : List ℕ) (u : User) → read_as user_kind octets ≡ Some u → stamp_of octets ≡ u.stamp
stamped-user octets u read = of_whole user_record.read octets u read (λ rest taken. sym (user-stamp octets u rest taken))

pub stamped-object : (octets : List ℕ) (o : Object) → read_as object_kind octets ≡ Some o → stamp_of octets ≡ o.stamp
stamped-object octets o read = of_whole object_record.read octets o read (λ rest taken. sym (object-stamp octets o rest taken))

pub stamped-grant : (octets : List ℕ) (g : Grant) → read_as grant_kind octets ≡ Some g → stamp_of octets ≡ g.stamp
stamped-grant octets g read = of_whole grant_record.read octets g read (λ rest taken. sym (grant-stamp octets g rest taken))

pub stamped-row : (octets : List ℕ) (r : RowRecord) → read_as row_kind octets ≡ Some r → stamp_of octets ≡ r.stamp
stamped-row octets r read = of_whole row_record.read octets r read (λ rest taken. sym (row-stamp octets r rest taken))

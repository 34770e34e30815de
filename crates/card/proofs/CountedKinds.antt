-- As many records of a kind as slots have its mark.
use Rattle.std.proofs.Common.{◌≡◌, ◌≤◌, ◌<◌, ◌+◌, ◌∙◌, ◌||◌, ℕ, Bool, true, false, List, [], ◌∷◌, length, take, get_or, Option, Some, None, refl, sym, ap, subst, arith}
use Rattle.std.specs.Prelude.{is_some, count_by, filter_map, cond, IfSome}
use Rattle.std.specs.List.{list_all, cons_option}
use Rattle.std.proofs.lemmas.Bool.{and_parts, false≢true}
use Rattle.std.proofs.lemmas.List.{take_all}
use Rattle.std.proofs.lemmas.List.Sums.{count_by_more_no, count_by_more_yes}
use Rattle.eeprom.specs.Slots.{in_slot, kept}
use Rattle.eeprom.specs.StoreOf.{Slots, weight_of}
use Rattle.eeprom.proofs.InOrder.{count_by-cons}
use Rattle.scql_model.specs.Database.{Database}
use Rattle.scql_model.specs.Opens.{Holds, is_spelled}
use Rattle.scql_model.proofs.Room.{cells-filled}
use Rattle.scql_model.specs.Records.{counter_in, user_in, object_in, grant_in, row_in}
use Rattle.catalog_codec.specs.Catalog.{counter_kind, user_kind, object_kind, grant_kind, row_kind}
use Rattle.catalog_codec.specs.CatalogLaws.{IsKind-counter, IsKind-user, IsKind-object, IsKind-grant, IsKind-row, HaveOtherMarks-counter-user, HaveOtherMarks-counter-object, HaveOtherMarks-counter-grant, HaveOtherMarks-user-object, HaveOtherMarks-user-grant, HaveOtherMarks-grant-object, HaveOtherMarks-row-counter, HaveOtherMarks-row-user, HaveOtherMarks-row-object, HaveOtherMarks-row-grant}
use Rattle.catalog_codec.specs.KindLaws.{HaveOtherMarks-sym}
use Rattle.catalog_codec.specs.Kinds.{Kind, IsKind, HaveOtherMarks, read_as, starts}
use Rattle.record_table.specs.Listed.{has_kind_mark}
use Rattle.card.specs.Counting.{counts_of}
use Rattle.card.proofs.SlotCount.{length-committed}
use Rattle.record_store.specs.Held.{Held, StandsFor, contents}
use Rattle.record_store.specs.declared.side.Side.TheVariants.{Committed}
use Rattle.row_index.proofs.Changes.{length-in_order}

-- octets with a mark of one kind are no record of another
starts-other : {X Y : Type 0} (kind : Kind X) (other : Kind Y) → HaveOtherMarks kind other → (octets : List ℕ) → starts kind.marks octets ≡ true → starts other.marks octets ≡ false
starts-other kind other apart [] marked = refl
starts-other kind other apart (octet ∷ octets) marked = apart octet marked

none-of : {X Y : Type 0} (kind : Kind X) (other : Kind Y) → IsKind other → HaveOtherMarks kind other → (octets : List ℕ) → starts kind.marks octets ≡ true → is_some (read_as other octets) ≡ false
none-of kind other law apart octets marked = ap is_some (law.others octets (starts-other kind other apart octets marked))

-- one of five holds, and four don't
only-second : (c u o g r : Bool) → (c || u || o || g || r) ≡ true → c ≡ false → o ≡ false → g ≡ false → r ≡ false → u ≡ true
only-second c true o g r some counter object grant row = refl
only-second c false o g r some counter object grant row = absurd (false≢true (rw (counter, object, grant, row) at some))

only-third : (c u o g r : Bool) → (c || u || o || g || r) ≡ true → c ≡ false → u ≡ false → g ≡ false → r ≡ false → o ≡ true
only-third c u true g r some counter user grant row = refl
only-third c u false g r some counter user grant row = absurd (false≢true (rw (counter, user, grant, row) at some))

only-fourth : (c u o g r : Bool) → (c || u || o || g || r) ≡ true → c ≡ false → u ≡ false → o ≡ false → r ≡ false → g ≡ true
only-fourth c u o true r some counter user object row = refl
only-fourth c u o false r some counter user object row = absurd (false≢true (rw (counter, user, object, row) at some))

only-fifth : (c u o g r : Bool) → (c || u || o || g || r) ≡ true → c ≡ false → u ≡ false → o ≡ false → g ≡ false → r ≡ true
only-fifth c u o g true some counter user object grant = refl
only-fifth c u o g false some counter user object grant = absurd (false≢true (rw (counter, user, object, grant) at some))

-- octets are a record of a kind exactly where they begin with its mark
abbrev IsTold : {X : Type 0} → Kind X → Type 0
IsTold {X} kind = (octets : List ℕ) → is_spelled (Some octets) ≡ true → is_some (read_as kind octets) ≡ starts kind.marks octets

by_mark : {X : Type 0} (kind : Kind X) → IsKind kind → ((octets : List ℕ) → is_spelled (Some octets) ≡ true → starts kind.marks octets ≡ true → is_some (read_as kind octets) ≡ true) → IsTold kind
by_mark kind law there octets spelled = go (starts kind.marks octets) refl
  where
    go : (b : Bool) → starts kind.marks octets ≡ b → is_some (read_as kind octets) ≡ b
    go true marked = there octets spelled marked
    go false unmarked = ap is_some (law.others octets unmarked)

users-told : IsTold user_kind
users-told = by_mark user_kind IsKind-user (λ octets spelled marked. only-second (is_some (counter_in octets)) (is_some (user_in octets)) (is_some (object_in octets)) (is_some (grant_in octets)) (is_some (row_in octets)) spelled
    (none-of user_kind counter_kind IsKind-counter (HaveOtherMarks-sym counter_kind user_kind HaveOtherMarks-counter-user) octets marked) (none-of user_kind object_kind IsKind-object HaveOtherMarks-user-object octets marked)
    (none-of user_kind grant_kind IsKind-grant HaveOtherMarks-user-grant octets marked) (none-of user_kind row_kind IsKind-row (HaveOtherMarks-sym row_kind user_kind HaveOtherMarks-row-user) octets marked))

objects-told : IsTold object_kind
objects-told = by_mark object_kind IsKind-object (λ octets spelled marked. only-third (is_some (counter_in octets)) (is_some (user_in octets)) (is_some (object_in octets)) (is_some (grant_in octets)) (is_some (row_in octets)) spelled
    (none-of object_kind counter_kind IsKind-counter (HaveOtherMarks-sym counter_kind object_kind HaveOtherMarks-counter-object) octets marked)
    (none-of object_kind user_kind IsKind-user (HaveOtherMarks-sym user_kind object_kind HaveOtherMarks-user-object) octets marked)
    (none-of object_kind grant_kind IsKind-grant (HaveOtherMarks-sym grant_kind object_kind HaveOtherMarks-grant-object) octets marked)
    (none-of object_kind row_kind IsKind-row (HaveOtherMarks-sym row_kind object_kind HaveOtherMarks-row-object) octets marked))

grants-told : IsTold grant_kind
grants-told = by_mark grant_kind IsKind-grant (λ octets spelled marked. only-fourth (is_some (counter_in octets)) (is_some (user_in octets)) (is_some (object_in octets)) (is_some (grant_in octets)) (is_some (row_in octets)) spelled
    (none-of grant_kind counter_kind IsKind-counter (HaveOtherMarks-sym counter_kind grant_kind HaveOtherMarks-counter-grant) octets marked)
    (none-of grant_kind user_kind IsKind-user (HaveOtherMarks-sym user_kind grant_kind HaveOtherMarks-user-grant) octets marked) (none-of grant_kind object_kind IsKind-object HaveOtherMarks-grant-object octets marked)
    (none-of grant_kind row_kind IsKind-row (HaveOtherMarks-sym row_kind grant_kind HaveOtherMarks-row-grant) octets marked))

rows-told : IsTold row_kind
rows-told = by_mark row_kind IsKind-row (λ octets spelled marked. only-fifth (is_some (counter_in octets)) (is_some (user_in octets)) (is_some (object_in octets)) (is_some (grant_in octets)) (is_some (row_in octets)) spelled
    (none-of row_kind counter_kind IsKind-counter HaveOtherMarks-row-counter octets marked) (none-of row_kind user_kind IsKind-user HaveOtherMarks-row-user octets marked)
    (none-of row_kind object_kind IsKind-object HaveOtherMarks-row-object octets marked) (none-of row_kind grant_kind IsKind-grant HaveOtherMarks-row-grant octets marked))

marked-slot : {X : Type 0} (kind : Kind X) → IsTold kind → (v : Option (List ℕ)) → is_spelled v ≡ true → has_kind_mark kind v ≡ is_some (in_slot (read_as kind) v)
marked-slot kind told None spelled = refl
marked-slot kind told (Some []) spelled = absurd (false≢true spelled)
marked-slot kind told (Some (octet ∷ octets)) spelled = sym (told (octet ∷ octets) spelled)

counted-slot : {X : Type 0} (b : Bool) (o : Option X) (n : ℕ) (rest : List X) → b ≡ is_some o → n ≡ length rest → cond b 1 0 + n ≡ length (cons_option o rest)
counted-slot b None n rest is same = rw is (omega (arith, same))
counted-slot b (Some x) n rest is same = rw is (omega (arith, same))

counted : {X : Type 0} (kind : Kind X) → IsTold kind → (slots : Slots) → list_all is_spelled slots ≡ true → count_by (has_kind_mark kind) slots ≡ length (filter_map (in_slot (read_as kind)) slots)
counted kind told [] all = refl
counted kind told (v ∷ slots) all =
    let both = and_parts (is_spelled v) (list_all is_spelled slots) all in
    count_by-cons (has_kind_mark kind) v slots
    ∙ counted-slot (has_kind_mark kind v) (in_slot (read_as kind) v) (count_by (has_kind_mark kind) slots) (filter_map (in_slot (read_as kind)) slots) (marked-slot kind told v both.0) (counted kind told slots both.1)

counted-kept : {X : Type 0} (kind : Kind X) → IsTold kind → (slots : Slots) (xs : List X) → list_all is_spelled slots ≡ true → kept kind.key (read_as kind) slots ≡ xs → count_by (has_kind_mark kind) slots ≡ length xs
counted-kept kind told slots xs all is = counted kind told slots all ∙ (sym (length-in_order kind.key (filter_map (in_slot (read_as kind)) slots)) ∙ ap length is)

-- so many of the committed slots before one pass
abbrev pub CountsBefore : (Option (List ℕ) → Bool) → Held → ℕ → ℕ → Type 0
CountsBefore p held slot n = (image : List ℕ) (slots : Slots) → StandsFor held image → contents held Committed image ≡ Some slots → n ≡ count_by p (take slot slots)

long : (held : Held) (image : List ℕ) (slots : Slots) → StandsFor held image → contents held Committed image ≡ Some slots → length slots ≡ held.chains.cells
long held image slots stands is = subst (λ (o : Option Slots). IfSome o (λ slots. length slots ≡ held.chains.cells)) is (length-committed held image stands)

-- a slot more
count-more : (p : Option (List ℕ) → Bool) (slots : Slots) (slot : ℕ) (b : Bool) → slot < length slots → b ≡ p (get_or slots slot None) → count_by p (take (slot + 1) slots) ≡ count_by p (take slot slots) + cond b 1 0
count-more p slots slot true there is = count_by_more_yes p slots slot None there (sym is)
count-more p slots slot false there is = count_by_more_no p slots slot None there (sym is) ∙ omega arith

pub counted-more : (p : Option (List ℕ) → Bool) (held : Held) (slot n next : ℕ) (b : Bool) → slot < held.chains.cells
    → ((image : List ℕ) (slots : Slots) → StandsFor held image → contents held Committed image ≡ Some slots → b ≡ p (get_or slots slot None)) → CountsBefore p held slot n → next ≡ n + cond b 1 0 → CountsBefore p held (slot + 1) next
counted-more p held slot n next b there marked before is image slots stands told =
    let size = long held image slots stands told in
    omega (arith, is, before image slots stands told, count-more p slots slot b (omega (arith, there, size)) (marked image slots stands told))

-- and all
pub counted-all : (p : Option (List ℕ) → Bool) (held : Held) (slot n : ℕ) → held.chains.cells ≤ slot → CountsBefore p held slot n
    → (image : List ℕ) (slots : Slots) → StandsFor held image → contents held Committed image ≡ Some slots → n ≡ count_by p slots
counted-all p held slot n all before image slots stands told = before image slots stands told ∙ ap (count_by p) (take_all slot slots (omega (arith, all, long held image slots stands told)))

-- the counts of slots that hold a database are the database's
pub counted-counts : (held : Held) (image : List ℕ) (slots : Slots) (db : Database) (users objects grants rows weight cells : ℕ) → StandsFor held image → contents held Committed image ≡ Some slots → Holds slots db
    → users ≡ count_by (has_kind_mark user_kind) slots → objects ≡ count_by (has_kind_mark object_kind) slots → grants ≡ count_by (has_kind_mark grant_kind) slots → rows ≡ count_by (has_kind_mark row_kind) slots
    → weight ≡ weight_of slots → cells ≡ held.chains.cells → record { users = users; objects = objects; grants = grants; rows = rows; weight = weight; cells = cells } ≡ counts_of db
counted-counts held image slots db users objects grants rows weight cells stands told holds users-are objects-are grants-are rows-are weighs number =
    let u = users-are ∙ counted-kept user_kind users-told slots db.users holds.spelled holds.users in
    let o = objects-are ∙ counted-kept object_kind objects-told slots db.objects holds.spelled holds.objects in
    let g = grants-are ∙ counted-kept grant_kind grants-told slots db.grants holds.spelled holds.grants in
    let r = rows-are ∙ counted-kept row_kind rows-told slots db.rows holds.spelled holds.rows in
    let w = weighs ∙ cells-filled slots db holds in
    let n = number ∙ (sym (long held image slots stands told) ∙ holds.cells) in
    rw (u, o, g, r, w, n) refl

-- What is read of an object's octets is spelled by them, and what is spelled is read back.
use Rattle.std.proofs.Common.{◌≡◌, ℕ, ◌==◌, Bool, true, false, List, [], ◌∷◌, ◌++◌, Option, Some, None, option_map, if◌then◌else◌, refl, sym, ◌∙◌, ap, subst}
use Rattle.std.specs.Prelude.{◌||◌}
use Rattle.std.proofs.lemmas.Bool.{true≢false}
use Rattle.scql_base.specs.declared.records.Object.{Object}
use Rattle.scql_base.specs.declared.records.ObjectKind.{ObjectKind}
use Rattle.scql_base.specs.declared.records.ObjectKind.TheVariants.{Table, View, Dictionary}
use Rattle.scql_model.specs.Fields.{Field, made_at}
use Rattle.scql_model.specs.Records.{object_record, object_from, object_spelling, object_fits, starts_with, to_table, to_view, to_dictionary, table_record, view_record, dictionary_record}
use Rattle.scql_model.proofs.FieldLaws.{AreOctets, Took, TakesField, IsLastField, IsLastField-from_IsField, mapped_some}
use Rattle.scql_model.proofs.RecordLaws.{IsField-table, IsField-view, IsField-dictionary}
use Rattle.catalog_codec.specs.Kinds.{starts}

-- one of two branches gives the value
in_branch : {X P : Type 0} (b : Bool) (o p : Option X) (x : X) → (if b then o else p) ≡ Some x → (o ≡ Some x → P) → (p ≡ Some x → P) → P
in_branch true o p x is first second = first is
in_branch false o p x is first second = second is

-- what a field takes, made into an object that has its spelling and limits
took_object : {A : Type 0} (to : A → Object) (f : Field A) → TakesField f → ((a : A) → object_spelling (to a) ≡ f.spell a) → ((a : A) → object_fits (to a) ≡ f.fits a)
    → (octets : List ℕ) (o : Object) (rest : List ℕ) → AreOctets octets → made_at to f.read octets ≡ Some (o, rest) → Took object_record octets o rest
took_object {A} to f takes spells fits octets o rest are is =
    mapped_some (λ (a : A × List ℕ). (to a.0, a.1)) (f.read octets) (o, rest) is (λ (a : A × List ℕ) at same.
    let took = takes octets a.0 a.1 are at in
    let made : Took object_record octets (to a.0) a.1
    = record { spelling = took.spelling ∙ ap (λ (front : List ℕ). front ++ a.1) (sym (spells a.0)); fits = fits a.0 ∙ took.fits; behind = took.behind } in
    subst (λ (r : Object × List ℕ). Took object_record octets r.0 r.1) same made)

takes-object : TakesField object_record
takes-object octets o rest are is =
    in_branch (starts_with 0x02 octets) _ _ (o, rest) is
    (took_object to_table table_record IsField-table.takes (λ x. refl) (λ x. refl) octets o rest are)
    (λ is'. in_branch (starts_with 0x03 octets) _ _ (o, rest) is'
    (took_object to_view view_record IsField-view.takes (λ x. refl) (λ x. refl) octets o rest are)
    (took_object to_dictionary dictionary_record IsField-dictionary.takes (λ x. refl) (λ x. refl) octets o rest are))

again-kind : (o : Object) (kind : ObjectKind) → object_fits (record o { kind = kind }) ≡ true → object_from (object_spelling (record o { kind = kind })) ≡ Some (record o { kind = kind }, [])
again-kind o (Table columns) fits = ap (option_map (λ x. (to_table x.0, x.1))) ((IsLastField-from_IsField table_record IsField-table).again (o.stamp, (o.owner, (o.name, columns))) fits)
again-kind o (View base columns conditions) fits =
    ap (option_map (λ x. (to_view x.0, x.1))) ((IsLastField-from_IsField view_record IsField-view).again (o.stamp, (o.owner, (base, (o.name, (columns, conditions))))) fits)
again-kind o (Dictionary subject) fits =
    ap (option_map (λ x. (to_dictionary x.0, x.1))) ((IsLastField-from_IsField dictionary_record IsField-dictionary).again (o.stamp, (o.owner, (o.name, subject))) fits)

pub IsLastField-object : IsLastField object_record
IsLastField-object = record { takes = takes-object; again = λ o fits. again-kind o o.kind fits }

pub begins-object : (o : Object) → starts (λ mark. mark == 0x02 || mark == 0x03 || mark == 0x04) (object_spelling o) ≡ true
begins-object o = begins o.kind
  where
    begins : (kind : ObjectKind) → starts (λ mark. mark == 0x02 || mark == 0x03 || mark == 0x04) (object_spelling (record o { kind = kind })) ≡ true
    begins (Table columns) = refl
    begins (View base columns conditions) = refl
    begins (Dictionary subject) = refl

no_branch : {X Y : Type 0} (a b c : Bool) (o p : Option X) (q : Option Y) (to : Y → X) → (a || b || c) ≡ false
    → (if a then o else if b then p else option_map to (if c then q else None)) ≡ None
no_branch true b c o p q to unmarked = absurd (true≢false unmarked)
no_branch false true c o p q to unmarked = absurd (true≢false unmarked)
no_branch false false true o p q to unmarked = absurd (true≢false unmarked)
no_branch false false false o p q to unmarked = refl

pub others-object : (octets : List ℕ) → starts (λ mark. mark == 0x02 || mark == 0x03 || mark == 0x04) octets ≡ false → object_from octets ≡ None
others-object [] unmarked = refl
others-object (mark ∷ octets) unmarked = no_branch (mark == 0x02) (mark == 0x03) (mark == 0x04) _ _ _ _ unmarked

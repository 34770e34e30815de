-- The values of a row after changes, one column after another.
use Rattle.std.proofs.Common.{◌≡◌, ◌==◌, ℕ, ◌+◌, ◌<◌, ◌≤◌, true, ◌||◌, List, [], ◌∷◌, ◌++◌, length, Option, Some, None, Ok, Err, refl, sym, ap, subst, ◌∙◌, inl, inr, arith, append_assoc, append-nil, length-append}
use Rattle.std.specs.Prelude.{option_map, unwrap_or, nat_lt, if◌then◌else◌}
use Rattle.std.specs.List.{find, list_all}
use Rattle.std.specs.Option.{option_map_or}
use Rattle.std.specs.Str.{bytes_eq}
use Rattle.std.proofs.lemmas.Bool.{and_parts, cases_Bool, le-ltb, ne_eqb, leb-true, ltb-true}
use Rattle.std.proofs.lemmas.List.Sums.{sum_by-append, sum_by-cons}
use Rattle.std.proofs.lemmas.Option.{none-some, same_Some}
use Rattle.scql_base.specs.Row.{is_narrow, row_size, with_value}
use Rattle.scql_base.specs.Strings.{params_of, with_string}
use Rattle.scql_base.specs.declared.row_refusal.RowRefusal.{RowRefusal}
use Rattle.scql_base.specs.declared.row_refusal.RowRefusal.TheVariants.{TooMany, TooWide}
use Rattle.scql_model.specs.Matching.{Columns, Values}
use Rattle.scql_model.specs.Writing.{Assignment, all_assigned, assigned}
use Rattle.db_write.specs.Assigned.{value_given}

-- what is left of a row: octets that split into the values of the columns that are left
pub record IsUnassigned (assignments : List Assignment) (columns : Columns) (whole : Values) (row : Values) (after : Values) (rest : List ℕ) : Type 0 where
  pub values : Values
  pub split : params_of rest ≡ Some values
  pub goes_on : after ++ all_assigned assignments columns values ≡ whole
  pub narrow : list_all is_narrow values ≡ true
  pub many : length after + length values ≡ length row

pub IsLeft-first : (assignments : List Assignment) (columns : Columns) (row : Values) (octets : List ℕ) → params_of octets ≡ Some row → list_all is_narrow row ≡ true → IsUnassigned assignments columns (all_assigned assignments columns row) row [] octets
IsLeft-first assignments columns row octets split narrow = record { values = row; split = split; goes_on = refl; narrow = narrow; many = omega arith }

-- the first value of what is left
pub record IsNext (value : List ℕ) (behind : List ℕ) (values : Values) : Type 0 where
  pub more : Values
  pub split : params_of behind ≡ Some more
  pub is : values ≡ value ∷ more

pub next-value : (rest value behind : List ℕ) (values : Values) → params_of rest ≡ Some values → params_of rest ≡ with_string value (params_of behind) → IsNext value behind values
next-value rest value behind values split is = of (params_of behind) refl (sym is ∙ split)
  where
    of : (o : Option Values) → params_of behind ≡ o → with_string value o ≡ Some values → IsNext value behind values
    of None same is = absurd (none-some values is)
    of (Some more) same is = record { more = more; split = same; is = sym (same_Some (value ∷ more) values is) }

-- the value that a column is to have
pub value-assigned : (assignments : List Assignment) (column value : List ℕ) → unwrap_or (value_given assignments column) value ≡ assigned assignments column value
value-assigned assignments column value = of (find (λ (a : Assignment). bytes_eq column a.0) assignments)
  where
    of : (o : Option Assignment) → unwrap_or (option_map (λ (a : Assignment). a.1) o) value ≡ option_map_or (λ (a : Assignment). a.1) o value
    of None = refl
    of (Some a) = refl

-- the row goes on with the value of the next column
pub IsLeft-next : (assignments : List Assignment) (column : List ℕ) (columns : Columns) (whole row after next : Values) (rest value behind given : List ℕ) → IsUnassigned assignments (column ∷ columns) whole row after rest
    → params_of rest ≡ with_string value (params_of behind) → given ≡ assigned assignments column value → next ≡ after ++ given ∷ [] → IsUnassigned assignments columns whole row next behind
IsLeft-next assignments column columns whole row after next rest value behind given left is gives pushed =
    let n = next-value rest value behind left.values left.split is in
    let own : after ++ (given ∷ all_assigned assignments columns n.more) ≡ whole =
    ap (λ (first : List ℕ). after ++ (first ∷ all_assigned assignments columns n.more)) gives
    ∙ subst (λ (values : Values). after ++ all_assigned assignments (column ∷ columns) values ≡ whole) n.is left.goes_on in
    let narrow = subst (λ (values : Values). list_all is_narrow values ≡ true) n.is left.narrow in
    let many : length after + length (value ∷ n.more) ≡ length row = subst (λ (values : Values). length after + length values ≡ length row) n.is left.many in
    record {
      values = n.more;
      split = n.split;
      goes_on = ap (λ (front : Values). front ++ all_assigned assignments columns n.more) pushed ∙ (append_assoc after (given ∷ []) (all_assigned assignments columns n.more) ∙ own);
      narrow = (and_parts (is_narrow value) (list_all is_narrow n.more) narrow).1;
      many = omega (arith, ap length pushed, length-append after (given ∷ []), many);
    }

-- where as many values are left as columns there is a next one
pub some-left : (assignments : List Assignment) (column : List ℕ) (columns : Columns) (whole row after : Values) (rest : List ℕ) → IsUnassigned assignments (column ∷ columns) whole row after rest
    → params_of rest ≡ (if length rest == 0 then Some [] else None) → length after + length (column ∷ columns) ≡ length row → ⊥
some-left assignments column columns whole row after rest left none many =
    elim (cases_Bool (length rest == 0)) [
      | inl t ↦ (let empty : left.values ≡ [] = same_Some left.values [] (sym left.split ∙ (none ∙ rw t refl)) in omega (arith, ap length empty, left.many))
      | inr f ↦ none-some left.values (let wrong : None ≡ Some left.values = sym (none ∙ rw f refl) ∙ left.split in wrong)
    ]

-- at the end the row is whole
pub whole-left : (assignments : List Assignment) (whole row after : Values) (rest : List ℕ) → IsUnassigned assignments [] whole row after rest → length after ≡ length row → after ≡ whole
whole-left assignments whole row after rest left many =
    none left.values left.goes_on (omega (arith, left.many))
  where
    none : (values : Values) → after ++ all_assigned assignments [] values ≡ whole → length values ≡ 0 → after ≡ whole
    none [] is few = sym (append-nil after) ∙ is
    none (value ∷ values) is few = absurd (omega (arith, few))

-- a row refuses a value that isn't too long only for want of room
pub refused-long : (after : Values) (given : List ℕ) (refusal : RowRefusal) → length after < 15 → length given ≤ 200 → with_value after given ≡ Err refusal → 1020 < row_size after + length given + 1
refused-long after given refusal few short is =
    elim (cases_Bool (nat_lt 1020 (row_size after + length given + 1))) [
      | inl t ↦ ltb-true 1020 (row_size after + length given + 1) t
      | inr f ↦ absurd (let wrong : Ok (after ++ given ∷ []) ≡ Err refusal = rw (ne_eqb (length after) 15 (λ full. omega (arith, full, few)), le-ltb 200 (length given) short, f) at is in cc)
    ]

-- and then the whole row is too long
pub too_long : (assignments : List Assignment) (column : List ℕ) (columns : Columns) (whole row after : Values) (rest value behind given : List ℕ) (refusal : RowRefusal) → IsUnassigned assignments (column ∷ columns) whole row after rest
    → params_of rest ≡ with_string value (params_of behind) → given ≡ assigned assignments column value → length after < 15 → length given ≤ 200 → with_value after given ≡ Err refusal → 1020 < row_size whole
too_long assignments column columns whole row after rest value behind given refusal left is gives few short refuses =
    let n = next-value rest value behind left.values left.split is in
    let more = all_assigned assignments columns n.more in
    let own : after ++ (given ∷ more) ≡ whole =
    ap (λ (first : List ℕ). after ++ (first ∷ more)) gives
    ∙ subst (λ (values : Values). after ++ all_assigned assignments (column ∷ columns) values ≡ whole) n.is left.goes_on in
    let long = refused-long after given refusal few short refuses in
    let one : row_size (given ∷ more) ≡ length given + 1 + row_size more = sum_by-cons (λ (v : List ℕ). length v + 1) given more in
    let size : row_size whole ≡ row_size after + row_size (given ∷ more) = ap row_size (sym own) ∙ sum_by-append (λ (v : List ℕ). length v + 1) after (given ∷ more) in
    omega (arith, size, one, long)

-- a value that a row takes stands at its end
pub row-pushed : (values new : Values) (value : List ℕ) → with_value values value ≡ Ok new → new ≡ values ++ value ∷ []
row-pushed values new value is =
    elim (cases_Bool (length values == 15)) [
      | inl t ↦ absurd (let wrong : Err TooMany ≡ Ok new = rw t at is in cc)
      | inr f ↦ elim (cases_Bool (nat_lt 200 (length value) || nat_lt 1020 (row_size values + length value + 1))) [
        | inl t ↦ absurd (let wrong : Err TooWide ≡ Ok new = rw (f, t) at is in cc)
        | inr g ↦ (let same : Ok (values ++ value ∷ []) ≡ Ok new = rw (f, g) at is in cc)
      ]
    ]

-- a default of what is seen of a value
pub unwrap-mapped : {X Y : Type 0} (f : X → Y) (o : Option X) (default : X) → f (unwrap_or o default) ≡ unwrap_or (option_map f o) (f default)
unwrap-mapped f None default = refl
unwrap-mapped f (Some x) default = refl

-- no value of a row is too long
pub narrow-next : (assignments : List Assignment) (columns : Columns) (whole row after : Values) (rest value behind : List ℕ) → IsUnassigned assignments columns whole row after rest → params_of rest ≡ with_string value (params_of behind) → length value ≤ 200
narrow-next assignments columns whole row after rest value behind left is =
    let n = next-value rest value behind left.values left.split is in
    let narrow = subst (λ (values : Values). list_all is_narrow values ≡ true) n.is left.narrow in
    leb-true (length value) 200 (and_parts (is_narrow value) (list_all is_narrow n.more) narrow).0

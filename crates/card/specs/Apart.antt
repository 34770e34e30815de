-- Names and pairs as numbers, by which those that are the same are found.
use Rattle.std.specs.Prelude.{ℕ, ◌+◌, ◌*◌, ◌^◌, ◌==◌, nat_lt, not, ◌&&◌, Bool, true, List, [], ◌∷◌, map, Option, option_map}
use Rattle.std.specs.Option.{option_map_or}
use Rattle.scql_base.specs.Name.{is_name}
use Rattle.scql_base.specs.declared.records.User.{User}
use Rattle.scql_base.specs.declared.records.Object.{Object}
use Rattle.scql_base.specs.declared.records.Grant.{Grant}
use Rattle.scql_model.specs.Rules.{are_different, are_apart_by, is_of_pair}
use Rattle.card.specs.declared.apart.Label.{Label}
use Rattle.card.specs.declared.apart.Label.TheVariants.{UserName, ObjectName, GrantPair}
use Rattle.card.specs.declared.kept_record.KeptRecord.{KeptRecord}
use Rattle.card.specs.KeptRecords.{as_user, as_object, as_grant, users_in, objects_in, grants_in}

-- no two numbers are the same
abbrev pub are_different_numbers : List ℕ → Bool
are_different_numbers numbers = are_apart_by (λ a b. a == b) numbers

-- the number whose digits to base 256 are these octets, the least digit first
abbrev pub octets_number : List ℕ → ℕ
octets_number [] = 0
octets_number (octet ∷ octets) = octet + 256 * octets_number octets

-- the number of a pair of stamps
abbrev pub pair_number : ℕ → ℕ → ℕ
pair_number object grantee = object * 2 ^ 32 + grantee

-- the number of what no two records share, where a record has it
abbrev pub number_by : Label → KeptRecord → Option ℕ
number_by UserName s = option_map (λ (u : User). octets_number u.name) (as_user s)
number_by ObjectName s = option_map (λ (o : Object). octets_number o.name) (as_object s)
number_by GrantPair s = option_map (λ (g : Grant). pair_number g.object g.grantee) (as_grant s)

-- stamps have four octets
abbrev pub is_pair_of_stamps : ℕ → ℕ → Bool
is_pair_of_stamps object grantee = nat_lt object (2 ^ 32) && nat_lt grantee (2 ^ 32)

-- where a record has it, it is a name or a pair of stamps
abbrev pub is_numbered : Label → KeptRecord → Bool
is_numbered UserName s = option_map_or (λ (u : User). is_name u.name) (as_user s) true
is_numbered ObjectName s = option_map_or (λ (o : Object). is_name o.name) (as_object s) true
is_numbered GrantPair s = option_map_or (λ (g : Grant). is_pair_of_stamps g.object g.grantee) (as_grant s) true

-- each number differs from the next, from this one on
abbrev pub differ_from_next : ℕ → List ℕ → Bool
differ_from_next number [] = true
differ_from_next number (next ∷ rest) = not (next == number) && differ_from_next next rest

-- no two users have one name, no two objects, or no two grants are of one object to one grantee
abbrev pub is_never_shared : Label → List KeptRecord → Bool
is_never_shared UserName records = are_different (map (λ (u : User). u.name) (users_in records))
is_never_shared ObjectName records = are_different (map (λ (o : Object). o.name) (objects_in records))
is_never_shared GrantPair records = are_apart_by is_of_pair (grants_in records)

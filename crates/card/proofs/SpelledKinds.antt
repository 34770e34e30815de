-- The record that octets are is, of each kind, what its reader gives.
use Rattle.std.proofs.Common.{◌≡◌, ℕ, List, Some, option_map, sym, ap, ◌∙◌}
use Rattle.std.specs.Option.{option_and_then}
use Rattle.scql_model.specs.Records.{user_in, object_in, grant_in, row_in}
use Rattle.row_index.specs.Places.{place_of}
use Rattle.card.specs.KeptRecords.{as_user, as_object, as_grant, as_row, as_place}
use Rattle.card.specs.Opening.{record_in, record_of}
use Rattle.card.specs.declared.kept_record.KeptRecord.{KeptRecord}
use Rattle.card.proofs.HeldKinds.{others, user-parts, object-parts, grant-parts, row-parts}
use Rattle.card.proofs.PlacedRows.{place-parts}

module _ (slot : ℕ) (octets : List ℕ) (s : KeptRecord) (is : record_in slot octets ≡ Some (record_of slot octets)) (seen : record_of slot octets ≡ s) where
  whole : record_in slot octets ≡ Some s
  whole = is ∙ ap Some seen

  pub user-spelled : user_in octets ≡ as_user s
  user-spelled = sym (user-parts slot (user_in octets) (object_in octets) (grant_in octets) (row_in octets)) ∙ ap (option_and_then as_user) whole

  pub object-spelled : object_in octets ≡ as_object s
  object-spelled = sym (object-parts slot (user_in octets) (object_in octets) (grant_in octets) (row_in octets) (others octets)) ∙ ap (option_and_then as_object) whole

  pub grant-spelled : grant_in octets ≡ as_grant s
  grant-spelled = sym (grant-parts slot (user_in octets) (object_in octets) (grant_in octets) (row_in octets) (others octets)) ∙ ap (option_and_then as_grant) whole

  pub row-spelled : row_in octets ≡ as_row s
  row-spelled = sym (row-parts slot (user_in octets) (object_in octets) (grant_in octets) (row_in octets) (others octets)) ∙ ap (option_and_then as_row) whole

  pub place-spelled : option_map (place_of slot) (row_in octets) ≡ as_place s
  place-spelled = sym (place-parts slot (user_in octets) (object_in octets) (grant_in octets) (row_in octets) (others octets)) ∙ ap (option_and_then as_place) whole

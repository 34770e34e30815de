-- Each kind owes what a kind owes, and no two of them have a first octet in common.
use Rattle.std.proofs.Common.{refl}
use Rattle.scql_model.proofs.FieldLaws.{IsLastField-from_IsField}
use Rattle.scql_model.proofs.RecordLaws.{IsLastField-counter, IsLastField-user, IsField-grant, IsLastField-row}
use Rattle.catalog_codec.specs.Kinds.{IsKind, HaveOtherMarks}
use Rattle.catalog_codec.specs.Catalog.{counter_kind, user_kind, object_kind, grant_kind, row_kind}
use Rattle.catalog_codec.specs.KindLaws.{IsKind-from_IsLastField, others-marked, other_mark}
use Rattle.catalog_codec.specs.ObjectLaws.{IsLastField-object, begins-object, others-object}

pub IsKind-counter : IsKind counter_kind
IsKind-counter = IsKind-from_IsLastField counter_kind IsLastField-counter (λ next. refl) (others-marked 0x00 _)

pub IsKind-user : IsKind user_kind
IsKind-user = IsKind-from_IsLastField user_kind IsLastField-user (λ user. refl) (others-marked 0x01 _)

pub IsKind-grant : IsKind grant_kind
IsKind-grant = IsKind-from_IsLastField grant_kind (IsLastField-from_IsField _ IsField-grant) (λ grant. refl) (others-marked 0x05 _)

pub IsKind-object : IsKind object_kind
IsKind-object = IsKind-from_IsLastField object_kind IsLastField-object begins-object others-object

pub IsKind-row : IsKind row_kind
IsKind-row = IsKind-from_IsLastField row_kind IsLastField-row (λ row. refl) (others-marked 0x06 _)

pub HaveOtherMarks-counter-user : HaveOtherMarks counter_kind user_kind
HaveOtherMarks-counter-user = other_mark 0x00 user_kind.marks refl

pub HaveOtherMarks-counter-object : HaveOtherMarks counter_kind object_kind
HaveOtherMarks-counter-object = other_mark 0x00 object_kind.marks refl

pub HaveOtherMarks-counter-grant : HaveOtherMarks counter_kind grant_kind
HaveOtherMarks-counter-grant = other_mark 0x00 grant_kind.marks refl

pub HaveOtherMarks-user-object : HaveOtherMarks user_kind object_kind
HaveOtherMarks-user-object = other_mark 0x01 object_kind.marks refl

pub HaveOtherMarks-user-grant : HaveOtherMarks user_kind grant_kind
HaveOtherMarks-user-grant = other_mark 0x01 grant_kind.marks refl

pub HaveOtherMarks-grant-object : HaveOtherMarks grant_kind object_kind
HaveOtherMarks-grant-object = other_mark 0x05 object_kind.marks refl

pub HaveOtherMarks-row-counter : HaveOtherMarks row_kind counter_kind
HaveOtherMarks-row-counter = other_mark 0x06 counter_kind.marks refl

pub HaveOtherMarks-row-user : HaveOtherMarks row_kind user_kind
HaveOtherMarks-row-user = other_mark 0x06 user_kind.marks refl

pub HaveOtherMarks-row-object : HaveOtherMarks row_kind object_kind
HaveOtherMarks-row-object = other_mark 0x06 object_kind.marks refl

pub HaveOtherMarks-row-grant : HaveOtherMarks row_kind grant_kind
HaveOtherMarks-row-grant = other_mark 0x06 grant_kind.marks refl

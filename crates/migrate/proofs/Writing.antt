-- The moments of a migration.
use Rattle.std.proofs.Common.{◌≡◌, ℕ, ◌≤◌, false, true, List, [], ◌∷◌, length, Option, Some, None, IfSome, option_map, sym, refl, ap, ◌∙◌, subst, arith}
use Rattle.std.proofs.lemmas.Option.{same_Some}
use Rattle.eeprom.specs.Chip.{Chip, Writes, Becomes, LeavesOf}
use Rattle.eeprom.specs.Image.{overwrite, IsTorn}
use Rattle.eeprom.proofs.Leaves.{at-told, write-leaves, leaves-weaker, leaves-then}
use Rattle.migrate.specs.Migration.{has_even_version, IsMigrated, IsBetweenVersions}
use Rattle.migrate.proofs.Versions.{IsLimited, limit-torn, limited, version-torn, migrated, migrated-none}

long-enough : (old : Chip) (was : List ℕ) → 11 ≤ old.still.size → IfSome old.image (λ image. length image ≡ old.still.size) → old.image ≡ Some was → 11 ≤ length was
long-enough old was room sized told = let size = at-told (λ image. length image ≡ old.still.size) old.image was told sized in omega arith

-- the row limit is written
pub limit-leaves : (old mid : Chip) (octets : List ℕ) → octets ≡ 0x03 ∷ 0xFC ∷ [] → 11 ≤ old.still.size → IfSome old.image (λ image. length image ≡ old.still.size) → IfSome old.image (λ image. has_even_version image ≡ true)
    → IfSome old.past (λ past. length past ≡ old.clock) → Writes 9 octets old mid → LeavesOf IsBetweenVersions old mid
limit-leaves old mid octets is room sized even clocked w =
    leaves-weaker old mid (λ was left. IsTorn was 9 (length octets) left) IsBetweenVersions
    (λ was left told torn. limit-torn was left (long-enough old was room sized told) (at-told (λ image. has_even_version image ≡ true) old.image was told even)
    (subst (λ (octets : List ℕ). IsTorn was 9 (length octets) left) is torn))
    (write-leaves 9 octets old mid clocked w)

told-through : (f : List ℕ → List ℕ) (old : Option (List ℕ)) (new : List ℕ) → option_map f old ≡ Some new → (was : List ℕ) × (old ≡ Some was) × (new ≡ f was)
told-through f None new e = absurd (cc)
told-through f (Some was) new e = (was, refl, same_Some new (f was) (sym e))

pub limit-there : (old mid : Chip) (octets : List ℕ) → octets ≡ 0x03 ∷ 0xFC ∷ [] → 11 ≤ old.still.size → IfSome old.image (λ image. length image ≡ old.still.size) → IfSome old.image (λ image. has_even_version image ≡ true)
    → mid.image ≡ option_map (λ image. overwrite image 9 octets) old.image → Becomes IsLimited old.image mid.image
limit-there old mid octets is room sized even written after told =
    let from = told-through (λ image. overwrite image 9 octets) old.image after (sym written ∙ told) in (
      from.0,
      from.1,
      subst (λ (image : List ℕ). IsLimited from.0 image) (sym (from.2 ∙ ap (λ (octets : List ℕ). overwrite from.0 9 octets) is))
          (limited from.0 (long-enough old from.0 room sized from.1) (at-told (λ image. has_even_version image ≡ true) old.image from.0 from.1 even)),
    )

-- and then the version
pub version-leaves : (old mid new : Chip) (octets : List ℕ) → octets ≡ 1 ∷ [] → mid.still ≡ old.still → Becomes IsLimited old.image mid.image → LeavesOf IsBetweenVersions old mid
    → IfSome mid.past (λ past. length past ≡ mid.clock) → Writes 5 octets mid new → LeavesOf IsBetweenVersions old new
version-leaves old mid new octets is still there first clocked w =
    leaves-then old mid new IsLimited (λ was left. IsTorn was 5 (length octets) left) IsBetweenVersions still there
    (λ was mid left done torn. version-torn was mid left done (subst (λ (octets : List ℕ). IsTorn mid 5 (length octets) left) is torn))
    first (write-leaves 5 octets mid new clocked w)

pub version-there : (old mid new : Option (List ℕ)) (octets : List ℕ) → octets ≡ 1 ∷ [] → Becomes IsLimited old mid → new ≡ option_map (λ image. overwrite image 5 octets) mid → Becomes IsMigrated old new
version-there old mid new octets is there written after told =
    let between = told-through (λ image. overwrite image 5 octets) mid after (sym written ∙ told) in
    let from = there between.0 between.1 in (
      from.0,
      from.1,
      subst (λ (image : List ℕ). IsMigrated from.0 image) (sym (between.2 ∙ ap (λ (octets : List ℕ). overwrite between.0 5 octets) is)) (migrated from.0 between.0 from.2),
    )

pub migrated-already : (old new : Option (List ℕ)) → new ≡ old → IfSome old (λ image. has_even_version image ≡ false) → Becomes IsMigrated old new
migrated-already old new same odd after told =
    let was = sym same ∙ told in
    (after, was, migrated-none after (at-told (λ image. has_even_version image ≡ false) old after was odd))

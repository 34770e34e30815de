-- A piece of a copy ends in one of six ways; one of them is that a card is mute.
use Rattle.std.proofs.Common.{◌≡◌, Ok, Err}
use Rattle.table_copy.specs.Filling.{Piece}
use Rattle.table_copy.specs.declared.copy_end.CopyEnd.TheVariants.{Copied, SourceRefused, DestRefused, SourceMute, DestMute}

pub unless-dest_mute : {A : Type 0} (P : Piece A → Type 0) (r : Piece A) → P (Err DestMute) → ((r ≡ Err DestMute → ⊥) → P r) → P r
unless-dest_mute P (Ok x) mute else' = else' (λ is. absurd cc)
unless-dest_mute P (Err (Copied rows)) mute else' = else' (λ is. absurd cc)
unless-dest_mute P (Err (SourceRefused word)) mute else' = else' (λ is. absurd cc)
unless-dest_mute P (Err (DestRefused word)) mute else' = else' (λ is. absurd cc)
unless-dest_mute P (Err SourceMute) mute else' = else' (λ is. absurd cc)
unless-dest_mute P (Err DestMute) mute else' = mute

pub unless-source_mute : {A : Type 0} (P : Piece A → Type 0) (r : Piece A) → P (Err SourceMute) → ((r ≡ Err SourceMute → ⊥) → P r) → P r
unless-source_mute P (Ok x) mute else' = else' (λ is. absurd cc)
unless-source_mute P (Err (Copied rows)) mute else' = else' (λ is. absurd cc)
unless-source_mute P (Err (SourceRefused word)) mute else' = else' (λ is. absurd cc)
unless-source_mute P (Err (DestRefused word)) mute else' = else' (λ is. absurd cc)
unless-source_mute P (Err DestMute) mute else' = else' (λ is. absurd cc)
unless-source_mute P (Err SourceMute) mute else' = mute

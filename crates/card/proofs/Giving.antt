-- A card stays ready, and at its machine, while output goes out.
pub use Rattle.card.specs.CardLaws.{IsReady-given, IsAt-given}

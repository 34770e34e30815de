-- Of each record the stamp is kept.
use Rattle.record_store.proofs.TaggedSlots.{tags-told}
use Rattle.record_store.proofs.store.Store.stamps.Goals as goal

pub returns : goal.returns
returns c = λ image slot octets stands there. rw (c.stamps.ensures, c.side_tags.ensures.tags) ((tags-told c.args.self.now c.args.side image stands).stamps slot octets there)

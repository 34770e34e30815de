use Rattle.std.proofs.Common.{arith, rules}
use Rattle.record_store.specs.Held.{tags_of}
use Rattle.record_store.specs.Tags.{stamp_of, tag_of}
use Rattle.record_store.proofs.TaggedSlots.{tag-here, tag-other, tags-told}
use Rattle.record_store.proofs.store.Store.next_tagged.Goals as goal

pub returns-in-Name : goal.returns-in-Name
returns-in-Name c = record {
  onward = search rules;
  most = search rules;
  others = rw c.in-Name.is (λ image passed stands onward before.
      let held = c.args.self.now in
      tag-other tag_of (tags_of held c.args.side).names held c.args.side image (tags-told held c.args.side image stands).names passed c.in-Name.tag (rw (c.names.ensures, c.side_tags-tags.ensures.tags) at c.next_with.ensures.others passed onward before));
  here = rw c.in-Name.is (λ image octets stands there.
      let held = c.args.self.now in
      let count = rw (c.side_tags-tags.ensures.tags) at c.side_tags-tags.ensures.count.names in
      tag-here tag_of (tags_of held c.args.side).names held c.args.side image (tags-told held c.args.side image stands).names c.next_with.result c.in-Name.tag octets (λ past. c.side_tags-tags.ensures.none image c.next_with.result stands (omega (arith, past, count)))
      (rw (c.names.ensures, c.side_tags-tags.ensures.tags) at c.next_with.ensures.here) there);
}

pub returns-in-Stamp : goal.returns-in-Stamp
returns-in-Stamp c = record {
  onward = search rules;
  most = search rules;
  others = rw c.in-Stamp.is (λ image passed stands onward before.
      let held = c.args.self.now in
      tag-other stamp_of (tags_of held c.args.side).stamps held c.args.side image (tags-told held c.args.side image stands).stamps passed c.in-Stamp.stamp (rw (c.stamps.ensures, c.side_tags-tags.ensures.tags) at c.next_with-in-Stamp.ensures.others passed onward before));
  here = rw c.in-Stamp.is (λ image octets stands there.
      let held = c.args.self.now in
      let count = rw (c.side_tags-tags.ensures.tags) at c.side_tags-tags.ensures.count.stamps in
      tag-here stamp_of (tags_of held c.args.side).stamps held c.args.side image (tags-told held c.args.side image stands).stamps c.next_with-in-Stamp.result c.in-Stamp.stamp octets (λ past. c.side_tags-tags.ensures.none image c.next_with-in-Stamp.result stands (omega (arith, past, count)))
      (rw (c.stamps.ensures, c.side_tags-tags.ensures.tags) at c.next_with-in-Stamp.ensures.here) there);
}

use Rattle.change_times.proofs.Words.{List, ◌∙◌, ap, filter, subst, StopRow, TransferRow, Onward, Back, HaveMembers, HaveRows, allows}
use Rattle.change_times.proofs.near.Nearby.build.Goals as goal

pub returns : goal.returns
returns c = record {
  members = subst (λ (stops : List StopRow). HaveMembers stops c.in_ok-members.field-0) c.places.ensures.places c.in_ok-members.ensures;
  onward = subst (λ (rows : List TransferRow). HaveRows Onward rows c.in_ok-links.field-0) (c.as_slice.ensures.value ∙ c.in_ok-rows.ensures ∙ ap (filter allows) c.rows.ensures) c.in_ok-links.ensures;
  back = subst (λ (rows : List TransferRow). HaveRows Back rows c.in_ok-links-2.field-0) (c.as_slice-2.ensures.value ∙ c.in_ok-rows.ensures ∙ ap (filter allows) c.rows.ensures) c.in_ok-links-2.ensures;
}

use Rattle.group_history.proofs.Versions.{distinct-version, version_first, version_is, version_kept, version_last, version_there}
use Rattle.group_history.proofs.laws.versions_of_a_group.Goals as goal

pub returns : goal.returns
returns c = record {
  first = λ opening changes at. version_first at opening changes;
  last = λ opening changes at. version_last at opening changes;
  there = λ opening changes at version.
      (λ (flows, found). (version_is at opening changes version flows found).0, λ within. (_, version_there at opening changes version within));
  maps = λ opening flows changes at version distinct found. distinct-version at opening changes version flows distinct found;
  stays = λ opening changes later at version within. version_kept at opening changes later version within;
}

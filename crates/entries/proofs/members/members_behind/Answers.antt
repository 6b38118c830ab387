use Rattle.entries.proofs.MemberLaws.{noting}
use Rattle.entries.proofs.members.members_behind.Goals as goal

pub returns-in_default : goal.returns-in_default
returns-in_default g c = search noting

pub loop-i-preserved : goal.loop-i-preserved
loop-i-preserved g c = search noting

pub returns-in_default-2 : goal.returns-in_default-2
returns-in_default-2 g c = search (noting, c.in_default.is)

pub loop-i-smaller : goal.loop-i-smaller
loop-i-smaller g c = search (noting, c.in-Ok-More.is, c.in-Ok-More.field-0-is)

use Rattle.sets.proofs.WritingLaws.{and_then}
use Rattle.configuring.proofs.write_entries.Goals as goal

pub returns : goal.returns
returns c T R =
    and_then (c.write_relation_lists-lists.ensures T R.lists) (c.write_project_lists.ensures T R.projects)

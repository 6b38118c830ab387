use Rattle.site.proofs.Laws.{name_ends_in}
use Rattle.site.proofs.lines.line_at.Goals as goal

pub slice_bounds-is_name-end : goal.slice_bounds-is_name-end
slice_bounds-is_name-end c = name_ends_in _ _ _ c.kind_at.ensures _ _ c.in_ok-kind.was _ c.name_end-end.ensures

-- A title that is cut is longer than what is shown of it, so the cut is within its bytes.
use Rattle.std.proofs.Common.{sym, arith}
use Rattle.std.proofs.lemmas.List.{length-take-le}
use Rattle.gtd_picture.proofs.words.write_title.Goals as goal

pub slice_bounds-write_cut-end : goal.slice_bounds-write_cut-end
slice_bounds-write_cut-end c = sym (length-take-le 100 c.args.title.now (omega (arith, c.if-title-gt-TITLE_ROOM.true)))

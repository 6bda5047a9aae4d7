use mathlib.Core.Path.{refl}
use Rattle.report.proofs.FieldsLaw.{rendered}
use Rattle.report.proofs.render_report.Goals as goal

pub returns : goal.returns
returns c = rw c.copy_from_slice.ensures.after (rendered _ c.numbers.ensures refl c.word.ensures c.add.ensures c.fields.ensures c.add-2.ensures)

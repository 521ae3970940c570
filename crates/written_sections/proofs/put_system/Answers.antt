-- `written_sections::put_system` meets its contract: the count, and behind it the rows.
use Rattle.whole.proofs.Laws.{◌≡◌, refl, ◌*◌, arith, length}
use Rattle.digits.proofs.Laws.{rows_in, rows_length}
use Rattle.digits.specs.Orders.{seen}
use Rattle.job_sections.proofs.Laws.{numbers_bytes, numbers_bytes_length}
use Rattle.written_sections.proofs.Filling.{section_filled}
use Rattle.written_sections.proofs.put_system.Goals as goal

pub returns : goal.returns
returns c =
    let s = seen c.args.system in
    let rows = rows_in (8 * s.count) s.columns in
    let size : length (numbers_bytes rows) ≡ 16 * s.count = omega (arith, numbers_bytes_length rows, rows_length (8 * s.count) s.columns) in
    (section_filled s.count (numbers_bytes rows) c.args.out.now c.put_count.ensures c.put_rows.ensures refl size, refl)

-- How many bytes a job file has.
use Rattle.whole.proofs.Laws.{◌≡◌, ◌++◌, ◌*◌, arith, length, length-append}
use Rattle.digits.proofs.Laws.{StoredSystem, rows_of, rows_length}
use Rattle.job_sections.specs.Layout.{Contents, system_bytes, matrix_bytes, word_bytes, layout_of}
use Rattle.job_sections.specs.Job.{bytes_of, file_size}
use Rattle.job_sections.proofs.Numbers.{numbers_bytes_length}

system_size : (s : StoredSystem) → length (system_bytes s) ≡ bytes_of s
system_size s = omega (arith, numbers_bytes_length (rows_of s), rows_length (8 * s.count) s.columns)

pub layout_size : (c : Contents) → length c.matrix ≡ 4 → length (layout_of c) ≡ file_size c
layout_size c four =
    let o = system_bytes c.output in
    let m = matrix_bytes c.matrix in
    let w = word_bytes c.word in
    omega (
      arith,
      length-append (system_bytes c.input) (o ++ (m ++ w)),
      length-append o (m ++ w),
      length-append m w,
      system_size c.input,
      system_size c.output,
      numbers_bytes_length c.matrix,
    )

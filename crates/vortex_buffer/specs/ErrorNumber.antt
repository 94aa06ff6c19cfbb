-- The number of each error of buffers: `error_number`.
use Rattle.std.specs.Prelude.{ℕ}
use Rattle.vortex_buffer.specs.declared.error.BufferError.{BufferError}
use Rattle.vortex_buffer.specs.declared.error.BufferError.TheVariants.{NotUtf8, OutOfMemory}

-- the number of an error, from 1 in the order of the variants
abbrev pub error_number : BufferError → ℕ
error_number NotUtf8 = 1
error_number OutOfMemory = 2

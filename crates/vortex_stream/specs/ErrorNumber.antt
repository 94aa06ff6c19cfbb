-- The number under which documents list an error.
use Rattle.std.specs.Prelude.{ℕ}
use Rattle.vortex_stream.specs.declared.error.IpcError.{IpcError}
use Rattle.vortex_stream.specs.declared.error.IpcError.TheVariants as error

-- the number of an error, from 1 in the order of the variants
abbrev pub error_number : IpcError → ℕ
error_number error.MalformedHeader = 1
error_number (error.WrongKind found) = 2
error_number error.UnknownEncoding = 3
error_number error.MalformedDType = 4
error_number error.MalformedArray = 5
error_number error.Failed = 6
error_number error.UnexpectedEnd = 7
error_number error.ReadFault = 8
error_number error.ReadLimit = 9
error_number error.WriteFault = 10
error_number error.TooLarge = 11
error_number error.OutOfMemory = 12

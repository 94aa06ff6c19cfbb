use Rattle.std.proofs.Common.{ap, sym, FitsSigned, rules}
use Rattle.std.specs.Int.{w8, w16, w32, w64, w128}
use Rattle.vortex_value.specs.DecimalValue.{decimal_number, width_of}
use Rattle.vortex_scalar_value.specs.ValueBytes.{decimal_bytes}
use Rattle.vortex_scalar_value.proofs.Put.{byte_put, decimal_put}
use Rattle.vortex_scalar_value.proofs.writing.put_decimal.Goals as goal

pub returns-in-I8-clause-written : goal.returns-in-I8-clause-written
returns-in-I8-clause-written c =
    let inside : FitsSigned w8 c.in-I8.n = search rules in
    byte_put c.put_bytes.result c.args.out c.to_le_bytes.result c.args.decimal c.in-I8.n inside c.to_le_bytes.ensures
    (ap (λ d. decimal_bytes (width_of d) (decimal_number d)) (sym c.in-I8.is)) c.put_bytes.ensures.written

pub returns-in-I16-clause-written : goal.returns-in-I16-clause-written
returns-in-I16-clause-written c =
    let inside : FitsSigned w16 c.in-I16.n = search rules in
    decimal_put c.put_bytes-in-I16.result c.args.out c.to_le_bytes-in-I16.result c.args.decimal w16 c.in-I16.n inside c.to_le_bytes-in-I16.ensures
    (ap (λ d. decimal_bytes (width_of d) (decimal_number d)) (sym c.in-I16.is)) c.put_bytes-in-I16.ensures.written

pub returns-in-I32-clause-written : goal.returns-in-I32-clause-written
returns-in-I32-clause-written c =
    let inside : FitsSigned w32 c.in-I32.n = search rules in
    decimal_put c.put_bytes-in-I32.result c.args.out c.to_le_bytes-in-I32.result c.args.decimal w32 c.in-I32.n inside c.to_le_bytes-in-I32.ensures
    (ap (λ d. decimal_bytes (width_of d) (decimal_number d)) (sym c.in-I32.is)) c.put_bytes-in-I32.ensures.written

pub returns-in-I64-clause-written : goal.returns-in-I64-clause-written
returns-in-I64-clause-written c =
    let inside : FitsSigned w64 c.in-I64.n = search rules in
    decimal_put c.put_bytes-in-I64.result c.args.out c.to_le_bytes-in-I64.result c.args.decimal w64 c.in-I64.n inside c.to_le_bytes-in-I64.ensures
    (ap (λ d. decimal_bytes (width_of d) (decimal_number d)) (sym c.in-I64.is)) c.put_bytes-in-I64.ensures.written

pub returns-in-I128-clause-written : goal.returns-in-I128-clause-written
returns-in-I128-clause-written c =
    let inside : FitsSigned w128 c.in-I128.n = search rules in
    decimal_put c.put_bytes-in-I128.result c.args.out c.to_le_bytes-in-I128.result c.args.decimal w128 c.in-I128.n inside c.to_le_bytes-in-I128.ensures
    (ap (λ d. decimal_bytes (width_of d) (decimal_number d)) (sym c.in-I128.is)) c.put_bytes-in-I128.ensures.written

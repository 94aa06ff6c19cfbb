use Rattle.vortex_bounds.specs.Bytes.{byte_lower_bound, byte_upper_bound}
use Rattle.vortex_bounds.specs.Texts.{text_lower_bound, text_upper_bound}
use Rattle.vortex_scalar.proofs.Bounded.{lower_bound, upper_bound, text_in_row}
use Rattle.vortex_scalar.proofs.worked.bounds_of_scalars.Goals as goal

pub returns-clause-lower_text : goal.returns-clause-lower_text
returns-clause-lower_text c n s k f =
    let texts = c.bounds_of_texts.ensures in
    lower_bound n s (text_lower_bound n) (λ bs e. texts.lower n bs (text_in_row s bs k f e)) (texts.lower_length n)

pub returns-clause-upper_text : goal.returns-clause-upper_text
returns-clause-upper_text c n s b k f =
    let texts = c.bounds_of_texts.ensures in
    upper_bound n s b (text_upper_bound n) (λ bs bound e h. texts.upper n bs bound (text_in_row s bs k f e) h) (texts.upper_length n)

pub returns-clause-lower_bytes : goal.returns-clause-lower_bytes
returns-clause-lower_bytes c n s =
    let bytes = c.bounds_of_bytes.ensures in
    lower_bound n s (byte_lower_bound n) (λ bs e. bytes.lower n bs) (bytes.lower_length n)

pub returns-clause-upper_bytes : goal.returns-clause-upper_bytes
returns-clause-upper_bytes c n s b =
    let bytes = c.bounds_of_bytes.ensures in
    upper_bound n s b (byte_upper_bound n) (λ bs bound e h. bytes.upper n bs bound h) (bytes.upper_length n)

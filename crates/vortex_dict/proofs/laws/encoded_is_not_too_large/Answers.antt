use Rattle.vortex_dict.proofs.SizeLemmas.{not_too_large}
use Rattle.vortex_dict.proofs.laws.encoded_is_not_too_large.Goals as goal

pub returns : goal.returns
returns c = λ over size held rows values codes. not_too_large size over held rows values codes

use Rattle.pad_veil.proofs.Spans.{apart_where, none_where, common, meet_from}
use Rattle.pad_veil.proofs.Veils.{all_fit, is_veil, one_veil}
use Rattle.pad_veil.proofs.laws.law_every_key_fits.Goals as goal

pub returns-clause-fits : goal.returns-clause-fits
returns-clause-fits c = all_fit

pub returns-clause-bytes : goal.returns-clause-bytes
returns-clause-bytes c = is_veil

pub returns-clause-one : goal.returns-clause-one
returns-clause-one c = one_veil

pub returns-clause-apart : goal.returns-clause-apart
returns-clause-apart c = λ size frames. (apart_where size frames, none_where size frames)

pub returns-clause-meet : goal.returns-clause-meet
returns-clause-meet c = λ f g. (common f g, λ h. meet_from f g h.0 h.1 h.2)

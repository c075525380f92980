-- To be sound as dates are read now is to be sound by the present reading (sound_now), and that is what is_sound_by promises.
use mathlib.Core.Path.{◌∙◌}
use Rattle.rules.proofs.SlotLaws.{sound_now}
use Rattle.sound.proofs.is_register_sound.Goals as goal

pub returns : goal.returns
returns c = c.is_sound_by.ensures ∙ sound_now c.args.register.now

use Rattle.pc_forward.proofs.walking.Walk.rest.Goals as goal

pub loop-at-init : goal.loop-at-init
loop-at-init c = record { walked = c.requires.walked; still = λ at e. e }

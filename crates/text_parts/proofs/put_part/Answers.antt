-- `put_part` asks for the room, and writes only then.
use Rattle.answers.proofs.Calling.{calling, kept, written}
use Rattle.text_parts.proofs.put_part.Goals as goal

pub returns-then-out-text : goal.returns-then-out-text
returns-then-out-text c = kept _ _ _ (search calling)

pub returns : goal.returns
returns c = written _ _ _ c.put_text-bytes.ensures (search calling)

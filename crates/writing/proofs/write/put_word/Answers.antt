-- `writing::write::put_word` meets its contract: the word is copied to its place. Assumes nothing.
use Rattle.writing.proofs.Put.{copied}
use Rattle.writing.proofs.write.put_word.Goals as goal

pub returns : goal.returns
returns c =
    let a = c.args in
    copied a.room.now a.at a.word.now c.copy_from_slice.new.self c.copy_from_slice.ensures.after

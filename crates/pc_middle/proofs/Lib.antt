pub mod CutPrograms

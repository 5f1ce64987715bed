pub mod StreamWrites

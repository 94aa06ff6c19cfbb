pub mod Borrowed

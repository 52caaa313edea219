mod Bytes
mod Reading
